use Rattle.walks.proofs.Ordering.{filled_right, loop_right, order_right}
use Rattle.walks.proofs.order.order_is_right.Goals as goal

pub returns-clause-order : goal.returns-clause-order
returns-clause-order c = order_right

pub returns-clause-filled : goal.returns-clause-filled
returns-clause-filled c = filled_right

pub returns-clause-round : goal.returns-clause-round
returns-clause-round c = loop_right
