-- The worths of the nodes of a net, worked out along an order. Assumes nothing.
--     worths                a value for each node; the empty value for any past its end
--     worth_at k g xs n     the worths xs of the successors of n joined, extended by n
--     filled k g order xs   the list xs after each node of an order in turn has been given its worth
--     Untouched order xs ys d         the nodes that an order leaves out have the same value in both lists; d past their ends
--     OrderOf nodes g order size      an order of nodes below size, each after its successors; a table describes the net at each
--     Worths k g order xs   what the worths of the nodes of an order are
use Rattle.std.specs.Prelude.{◌≡◌, ℕ, ◌<◌, List, [], ◌∷◌, length, slice_index_or, slice_index, slice_set}
use Rattle.paths.specs.declared.node.Node.{Node}
use Rattle.paths.specs.Kind.{PathKind}
use Rattle.paths.specs.Net.{Net, Listed, Ordered, Described}
use Rattle.paths.specs.Join.{join_over, JoinFrom}

abbrev pub worth_at : {V : Type 0} → PathKind V → Net → List V → ℕ → V
worth_at k g xs n = k.extend (join_over k (λ t. slice_index_or xs t k.empty) (g.ways n)) (g.slot n) (g.price n)

abbrev pub filled : {V : Type 0} → PathKind V → Net → List ℕ → List V → List V
filled k g [] xs = xs
filled k g (n ∷ order) xs = filled k g order (slice_set xs n (worth_at k g xs n))

abbrev pub Untouched : {V : Type 0} → List ℕ → List V → List V → V → Type 0
Untouched order xs ys d = (n : ℕ) → (Listed order (length order) n → ⊥) → slice_index_or ys n d ≡ slice_index_or xs n d

pub record OrderOf (nodes : List Node) (g : Net) (order : List ℕ) (size : ℕ) : Type 0 where
  pub described : (p : ℕ) → p < length order → Described nodes g (slice_index order p)
  pub ordered : Ordered g order
  pub inside : (p : ℕ) → p < length order → slice_index order p < size

pub record Worths {V : Type 0} (k : PathKind V) (g : Net) (order : List ℕ) (xs : List V) : Type 0 where
  -- each is the joined worths of its successors, extended by it,
  pub recursive : (n : ℕ) → Listed order (length order) n → slice_index_or xs n k.empty ≡ worth_at k g xs n
  -- and so the join of the values of all complete lists from it
  pub joined : (n : ℕ) → Listed order (length order) n → JoinFrom k g n (slice_index_or xs n k.empty)
