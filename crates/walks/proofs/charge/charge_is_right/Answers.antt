use Rattle.walks.proofs.Charging.{charge_right}
use Rattle.walks.proofs.charge.charge_is_right.Goals as goal

pub returns-clause-right : goal.returns-clause-right
returns-clause-right c = charge_right
