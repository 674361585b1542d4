use Rattle.survey.proofs.Scaling.{rises}
use Rattle.survey.proofs.geometry.scaled.Goals as goal

pub returns-then-whole-eq0-clause-rises : goal.returns-then-whole-eq0-clause-rises
returns-then-whole-eq0-clause-rises c = rises

pub returns-clause-rises : goal.returns-clause-rises
returns-clause-rises c = rises
