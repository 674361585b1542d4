-- The ways out of a node that stay below 1,024. Assumes nothing.
--     within t              a node below 1,024, or none
--     Split ways a b        a and b, where they are not none, are the nodes below 1,024 of a list of ways
use Rattle.std.specs.Prelude.{◌≡◌, ℕ, ◌<◌, ◌⊎◌, List, Some, None, Option, if◌then◌else◌, nat_lt}
use Rattle.paths.specs.Net.{In}

abbrev pub within : ℕ → Option ℕ
within t = if nat_lt t 1024 then Some t else None

pub record Split (ways : List ℕ) (a b : Option ℕ) : Type 0 where
  pub all : (t : ℕ) → In t ways → t < 1024 → (a ≡ Some t) ⊎ (b ≡ Some t)
  pub first : (t : ℕ) → a ≡ Some t → In t ways × (t < 1024)
  pub second : (t : ℕ) → b ≡ Some t → In t ways × (t < 1024)
