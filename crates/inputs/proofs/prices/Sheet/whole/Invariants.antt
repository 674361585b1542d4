use Rattle.std.proofs.Common.{◌≡◌, ℕ, ◌<◌, Some, None, get_or, length}
use Rattle.inputs.proofs.prices.Sheet.whole.Given as goal

abbrev pub invariant-loop-place : goal.invariant-loop-place
invariant-loop-place l = (length l.prices ≡ 257) × ((k : ℕ) → k < l.place → get_or l.self.prices k None ≡ Some (get_or l.prices k 0))
