-- A list of worths with its front cleared. Assumes nothing.
--     Cleared k count xs ys     ys has the empty value at each node below count, and is as xs from there on
use Rattle.std.specs.Prelude.{◌≡◌, ℕ, ◌<◌, ◌≤◌, List, slice_index_or}
use Rattle.paths.specs.Kind.{PathKind}

pub record Cleared {V : Type 0} (k : PathKind V) (count : ℕ) (xs ys : List V) : Type 0 where
  pub below : (n : ℕ) → n < count → slice_index_or ys n k.empty ≡ k.empty
  pub beyond : (n : ℕ) → count ≤ n → slice_index_or ys n k.empty ≡ slice_index_or xs n k.empty
