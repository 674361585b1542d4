-- The nodes that walks go along, as plain data. Assumes nothing.
--     g.ways n              the successors of node n; none where a walk ends
--     g.price n             the price of a node
--     g.slot n              the slot that a node stands at
--     In a l                a is an element of a list
--     Complete g n l        l is a complete list from n: each later node a successor of the one before, the last with none
--     Listed order p n      n is among the first p nodes of an order
--     Ordered g order       each node of an order stands after all its successors
--     no_node               the node past the end of a table: no way out, at no price
--     node_at nodes n       node n of a table
--     tabled nodes          the net that a table says, node by node
--     Described nodes g n   at node n, a net is as a table says
use Rattle.std.specs.Prelude.{◌≡◌, ℕ, ◌<◌, ◌⊎◌, List, [], ◌∷◌, length, slice_index, slice_index_or}
use Rattle.paths.specs.declared.node.Successors.{Successors}
use Rattle.paths.specs.declared.node.Successors.TheVariants.{End, One, Both}
use Rattle.paths.specs.declared.node.Node.{Node}

pub record Net : Type 0 where
  pub ways : ℕ → List ℕ
  pub price : ℕ → ℕ
  pub slot : ℕ → ℕ

abbrev pub In : {A : Type 0} → A → List A → Type 0
In a [] = ⊥
In a (x ∷ xs) = (a ≡ x) ⊎ In a xs

pub data Complete (g : Net) : ℕ → List ℕ → Type 0 where
  ends : {n : ℕ} → g.ways n ≡ [] → Complete g n (n ∷ [])
  goes : {n t : ℕ} {l : List ℕ} → In t (g.ways n) → Complete g t l → Complete g n (n ∷ l)

abbrev pub Listed : List ℕ → ℕ → ℕ → Type 0
Listed order p n = (q : ℕ) × (q < p) × (slice_index order q ≡ n)

abbrev pub Ordered : Net → List ℕ → Type 0
Ordered g order = (p t : ℕ) → p < length order → In t (g.ways (slice_index order p)) → Listed order p t

abbrev pub ways_of : Successors → List ℕ
ways_of End = []
ways_of (One a) = a ∷ []
ways_of (Both a b) = a ∷ b ∷ []

abbrev pub no_node : Node
no_node = record { slot = 0; price = 0; successors = End }

abbrev pub node_at : List Node → ℕ → Node
node_at nodes n = slice_index_or nodes n no_node

abbrev pub tabled : List Node → Net
tabled nodes =
    record {
      ways = λ n. ways_of (node_at nodes n).successors;
      price = λ n. (node_at nodes n).price;
      slot = λ n. (node_at nodes n).slot;
    }

pub record Described (nodes : List Node) (g : Net) (n : ℕ) : Type 0 where
  pub ways : g.ways n ≡ (tabled nodes).ways n
  pub price : g.price n ≡ (tabled nodes).price n
  pub slot : g.slot n ≡ (tabled nodes).slot n
