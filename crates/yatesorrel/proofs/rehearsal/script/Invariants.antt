use Rattle.std.proofs.Common.{◌≡◌}
use Rattle.yatesorrel.specs.Script.{script_of}
use Rattle.yatesorrel.proofs.rehearsal.script.Given as goal

abbrev pub invariant-loop-asked : goal.invariant-loop-asked
invariant-loop-asked l = l.calls.items ≡ script_of l.cuts l.asked
