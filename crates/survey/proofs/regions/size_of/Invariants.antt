use Rattle.paths.specs.Net.{tabled}
use Rattle.search.specs.Reach.{Reaches}
use Rattle.survey.specs.Counted.{Counted}
use Rattle.survey.proofs.regions.size_of.Given as goal

abbrev pub invariant-loop-slot : goal.invariant-loop-slot
invariant-loop-slot l = Counted (Reaches (tabled l.nodes) l.start) l.slot l.size
