use Rattle.walks.proofs.TwoKinds.{complete_right, worth_right}
use Rattle.walks.proofs.worth.worth_is_right.Goals as goal

pub returns-clause-worth : goal.returns-clause-worth
returns-clause-worth c = worth_right

pub returns-clause-complete : goal.returns-clause-complete
returns-clause-complete c = complete_right
