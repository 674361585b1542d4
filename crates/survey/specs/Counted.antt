-- How many numbers have a property. Assumes nothing.
--     Counted P n k         of the numbers below n, k have the property P
--     Chosen starts n       slot n is a start
use Rattle.std.specs.Prelude.{◌≡◌, ℕ, ◌+◌, Bool, true, false, List, slice_index_or}

pub data Counted (P : ℕ → Type 0) : ℕ → ℕ → Type 0 where
  none : Counted P 0 0
  one : {n k : ℕ} → P n → Counted P n k → Counted P (n + 1) (k + 1)
  other : {n k : ℕ} → (P n → ⊥) → Counted P n k → Counted P (n + 1) k

abbrev pub Chosen : List Bool → ℕ → Type 0
Chosen starts n = slice_index_or starts n false ≡ true
