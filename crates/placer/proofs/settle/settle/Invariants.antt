use Rattle.std.proofs.Common.{◌≡◌, ℕ, ◌-◌, ◌≤◌}
use Rattle.walks.specs.Graph.{Graph}
use Rattle.walks.specs.Placing.{allowed, dropped}
use Rattle.placer.specs.Turned.{marked, Plain, Turns}
use Rattle.placer.proofs.settle.settle.Given as goal

abbrev pub invariant-loop-at : goal.invariant-loop-at
invariant-loop-at l =
    (saving : ℕ) (g : Graph) → Plain saving g l.plain → g.size ≤ l.count → Turns saving g l.plain l.initial.turned
    → Turns saving g l.plain l.turned
    × (dropped (allowed saving g l.budget) (l.count - l.at) l.at (marked l.turned.saves)
    ≡ dropped (allowed saving g l.budget) l.count 0 (marked l.initial.turned.saves))
