-- What a search from some starts finds: an order of the nodes that they reach, or a loop. Assumes nothing.
--     After g order                each node of an order stands after its successors below 1,024
--     Once order                   no node stands twice in an order
--     Sorted g starts order        an order of the nodes that the starts reach
--     Searched g starts order r    what an answer says: that is the order, and no node that the starts reach lies on a loop;
--                                  or some node that they reach does
use Rattle.std.specs.Prelude.{ℕ, ◌<◌, Bool, ◌↔◌, List, length, Result, Ok, Err, ◌≢◌, slice_index}
use Rattle.paths.specs.Net.{Net, In, Listed}
use Rattle.search.specs.declared.order.Looping.{Looping}
use Rattle.search.specs.Reach.{Reached, Looped}

abbrev pub After : Net → List ℕ → Type 0
After g order = (p t : ℕ) → p < length order → In t (g.ways (slice_index order p)) → t < 1024 → Listed order p t

abbrev pub Once : List ℕ → Type 0
Once order = (p q : ℕ) → p < q → q < length order → slice_index order p ≢ slice_index order q

pub record Sorted (g : Net) (starts : List Bool) (order : List ℕ) : Type 0 where
  pub after : After g order
  pub once : Once order
  -- it holds all nodes below 1,024 that the starts reach, and no others
  pub exact : (n : ℕ) → Listed order (length order) n ↔ ((n < 1024) × Reached g starts n)
  pub unlooped : (n : ℕ) → Looped g starts n → ⊥

abbrev pub Searched : Net → List Bool → List ℕ → Result (Unit {0}) Looping → Type 0
Searched g starts order (Ok _) = Sorted g starts order
Searched g starts order (Err _) = (n : ℕ) × Looped g starts n
