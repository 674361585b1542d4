-- The lowest node on a loop that some start reaches. Assumes nothing.
--     Least P n             P holds of n and of no number below
--     Lowest g starts r     r is that node, or none where no start reaches a loop
use Rattle.std.specs.Prelude.{ℕ, ◌<◌, Bool, List, Some, None, Option}
use Rattle.paths.specs.Net.{Net}
use Rattle.search.specs.Reach.{Looped}

pub record Least (P : ℕ → Type 0) (n : ℕ) : Type 0 where
  pub holds : P n
  pub below : (k : ℕ) → k < n → P k → ⊥

abbrev pub Lowest : Net → List Bool → Option ℕ → Type 0
Lowest g starts (Some n) = Least (Looped g starts) n
Lowest g starts None = (n : ℕ) → Looped g starts n → ⊥
