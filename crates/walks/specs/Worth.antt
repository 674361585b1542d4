-- The worth of a node, as a value that computes. Assumes nothing.
--     worth_within k g steps n    the worth of n by the lists of at most so many nodes
--     worth_of k g n              the worth of n: the joined worths of its onward nodes, extended by it; the empty value where n is not reachable
--     WorthsIn k price g worth    what the worths of the reachable nodes are, where a value has a price
--     BothKinds g                 the worths of a graph are so, as prices and as prices with their slots
--     WorthRight                  they are so on a sound graph in which no walk holds a node twice
--     CompleteRight               the complete lists of the net of a sound graph are those of the graph
use Rattle.std.specs.Prelude.{◌≡◌, ℕ, zero, suc, ◌<◌, cond, ◌↔◌, List, ◌∷◌}
use Rattle.paths.specs.declared.price.Price.{Price}
use Rattle.paths.specs.declared.worth.Worth.{Worth}
use Rattle.paths.specs.Kind.{PathKind}
use Rattle.paths.specs.Net.{Complete}
use Rattle.paths.specs.Join.{join_over, JoinFrom}
use Rattle.paths.specs.Price.{price_kind}
use Rattle.paths.specs.Worth.{worth_kind}
use Rattle.walks.specs.Graph.{Graph, onward, net_of, Sound, Small}
use Rattle.walks.specs.Walk.{Reachable, CompleteList}
use Rattle.walks.specs.Acceptance.{Unlooped, Dearest}
use Rattle.walks.specs.Reached.{reached}

abbrev pub worth_within : {V : Type 0} → PathKind V → Graph → ℕ → ℕ → V
worth_within k g zero n = k.empty
worth_within k g (suc steps) n = k.extend (join_over k (worth_within k g steps) (onward g n)) (g.slot n) (g.price n)

abbrev pub worth_of : {V : Type 0} → PathKind V → Graph → ℕ → V
worth_of k g n = cond (reached g n) (worth_within k g g.size n) k.empty

pub record WorthsIn {V : Type 0} (k : PathKind V) (price : V → ℕ) (g : Graph) (worth : ℕ → V) : Type 0 where
  -- the worth of a reachable node is the joined worths of its onward nodes, extended by it; the rest have the empty value;
  pub extended : (n : ℕ) → Reachable g n → worth n ≡ k.extend (join_over k worth (onward g n)) (g.slot n) (g.price n)
  pub rest : (n : ℕ) → (Reachable g n → ⊥) → worth n ≡ k.empty
  -- so it is the join, in any order, of all complete lists from it,
  pub joined : (n : ℕ) → Reachable g n → JoinFrom k (net_of g) n (worth n)
  -- and its price, where prices are small, is the dearest of theirs
  pub dearest : (c : ℕ) → Small g c → (n : ℕ) → Reachable g n → Dearest g n (price (worth n))

pub record BothKinds (g : Graph) : Type 0 where
  pub prices : WorthsIn price_kind (λ (x : Price). x.price) g (worth_of price_kind g)
  pub worths : WorthsIn worth_kind (λ (x : Worth). x.price) g (worth_of worth_kind g)

abbrev pub WorthRight : Type 0
WorthRight = (g : Graph) → Sound g → Unlooped g → BothKinds g

abbrev pub CompleteRight : Type 0
CompleteRight =
    (g : Graph) → Sound g → (n : ℕ) (w : List ℕ) → n < g.size
    → Complete (net_of g) n w ↔ ((l : List ℕ) × (w ≡ n ∷ l) × CompleteList g n l)
