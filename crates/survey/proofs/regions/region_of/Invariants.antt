use Rattle.survey.specs.Counted.{Chosen, Counted}
use Rattle.survey.proofs.regions.region_of.Given as goal

abbrev pub invariant-loop-slot : goal.invariant-loop-slot
invariant-loop-slot l = Counted (Chosen l.starts) l.slot l.number
