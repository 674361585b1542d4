-- Orders of the nodes that walks come to, and loops. Assumes nothing.
--     OrderFor g order       every start is in an order, and each node of it stands after its onward nodes
--     Leads g m n            onward nodes lead from m to n, by one step or more
--     Along g order          no walk holds a node twice, and the order holds every reachable node
--     Filled k g order xs    where xs are the worths along an order, they are the worths of the reachable nodes
--     OrderRight             an order for a sound graph has it so
--     FilledRight            so have the values filled along it, of both kinds
--     LoopRight              a walk holds a node twice exactly where it is reachable and leads back to itself
use Rattle.std.specs.Prelude.{◌≡◌, ℕ, ◌↔◌, List, length, slice_index_or}
use Rattle.paths.specs.declared.price.Price.{Price}
use Rattle.paths.specs.declared.worth.Worth.{Worth}
use Rattle.paths.specs.Kind.{PathKind}
use Rattle.paths.specs.Net.{In, Listed, Ordered}
use Rattle.paths.specs.Fill.{Worths}
use Rattle.paths.specs.Price.{price_kind}
use Rattle.paths.specs.Worth.{worth_kind}
use Rattle.walks.specs.Graph.{Graph, onward, net_of, Sound}
use Rattle.walks.specs.Walk.{Reachable, Start}
use Rattle.walks.specs.Acceptance.{Looped, Unlooped}
use Rattle.walks.specs.Worth.{worth_of}

pub record OrderFor (g : Graph) (order : List ℕ) : Type 0 where
  pub ordered : Ordered (net_of g) order
  pub starts : (n : ℕ) → Start g n → Listed order (length order) n

pub data Leads (g : Graph) : ℕ → ℕ → Type 0 where
  once : {m n : ℕ} → In n (onward g m) → Leads g m n
  more : {m n t : ℕ} → Leads g m n → In t (onward g n) → Leads g m t

pub record Along (g : Graph) (order : List ℕ) : Type 0 where
  pub unlooped : Unlooped g
  pub reachable : (n : ℕ) → Reachable g n → Listed order (length order) n

abbrev pub Filled : {V : Type 0} → PathKind V → Graph → List ℕ → List V → Type 0
Filled k g order xs = Worths k (net_of g) order xs → (n : ℕ) → Reachable g n → slice_index_or xs n k.empty ≡ worth_of k g n

abbrev pub OrderRight : Type 0
OrderRight = (g : Graph) → Sound g → (order : List ℕ) → OrderFor g order → Along g order

abbrev pub FilledRight : Type 0
FilledRight =
    (g : Graph) → Sound g → (order : List ℕ) → OrderFor g order
    → ((xs : List Price) → Filled price_kind g order xs) × ((xs : List Worth) → Filled worth_kind g order xs)

abbrev pub LoopRight : Type 0
LoopRight = (g : Graph) → Sound g → (n : ℕ) → Looped g n ↔ (Reachable g n × Leads g n n)
