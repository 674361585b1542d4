use Rattle.std.proofs.Common.{◌≡◌, drop}
use Rattle.paths.specs.Net.{tabled}
use Rattle.paths.specs.Fill.{filled}
use Rattle.paths.proofs.fill.fill.Given as goal

-- what is left to fill leads to the whole
abbrev pub invariant-loop-at : goal.invariant-loop-at
invariant-loop-at g l =
    filled g.V.PathValue.kind (tabled l.nodes) (drop l.at-index l.order) l.worths
    ≡ filled g.V.PathValue.kind (tabled l.nodes) l.order l.initial.worths
