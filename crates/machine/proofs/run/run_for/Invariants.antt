use Rattle.std.proofs.Common.{◌≡◌}
use Rattle.machine.specs.Run.{run_of}
use Rattle.machine.proofs.run.run_for.Given as goal

abbrev pub invariant-loop-steps : goal.invariant-loop-steps
invariant-loop-steps l = record { state = l.state; steps = l.steps } ≡ run_of l.image l.tape l.steps
