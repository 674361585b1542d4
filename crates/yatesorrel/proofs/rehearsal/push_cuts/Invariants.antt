use Rattle.std.proofs.Common.{◌≡◌, ◌++◌, drop}
use Rattle.yatesorrel.specs.Script.{cuts_at}
use Rattle.yatesorrel.proofs.rehearsal.push_cuts.Given as goal

abbrev pub invariant-loop-cut : goal.invariant-loop-cut
invariant-loop-cut l = l.calls.items ++ cuts_at (drop l.cut-index l.cuts) l.asked ≡ l.initial.calls.items ++ cuts_at l.cuts l.asked
