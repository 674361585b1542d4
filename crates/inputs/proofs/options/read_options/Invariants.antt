use Rattle.std.proofs.Common.{◌≡◌, length}
use Rattle.inputs.specs.Options.{chosen, chosen_from, chosen_in, texts}
use Rattle.inputs.proofs.options.read_options.Given as goal

abbrev pub invariant-loop-rest : goal.invariant-loop-rest
invariant-loop-rest l = chosen_in l.verb (texts l.words) ≡ chosen_from l.verb (chosen l.options) (texts l.rest)

abbrev pub decreases-loop-rest : goal.decreases-loop-rest
decreases-loop-rest l = length l.rest
