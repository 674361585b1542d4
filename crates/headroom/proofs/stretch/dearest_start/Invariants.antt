use Rattle.std.proofs.Common.{◌≡◌, ℕ, ◌<◌, ◌≤◌, true, false, ◌⊎◌, get_or}
use Rattle.headroom.specs.Stretch.{worth_at}
use Rattle.headroom.proofs.stretch.dearest_start.Given as goal

abbrev pub invariant-loop-slot : goal.invariant-loop-slot
invariant-loop-slot l =
    ((k : ℕ) → k < l.slot → get_or l.starts k false ≡ true → (worth_at l.worths k).price ≤ (worth_at l.worths l.dearest).price)
    × ((k : ℕ) → k < l.dearest → get_or l.starts k false ≡ true → (worth_at l.worths k).price < (worth_at l.worths l.dearest).price)
    × (l.dearest ≤ l.slot)
    × ((l.dearest ≡ 0) ⊎ ((get_or l.starts l.dearest false ≡ true) × ((worth_at l.worths 0).price < (worth_at l.worths l.dearest).price)))
