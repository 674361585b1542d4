use Rattle.search.proofs.Starting.{started, sorted}
use Rattle.search.proofs.table.Table.find_order.Goals as goal

pub loop-start-init : goal.loop-start-init
loop-start-init c = started c.begin.ensures.marks c.begin.ensures.path c.begin.ensures.order

pub returns : goal.returns
returns c = sorted c.args.self.now.nodes.now c.args.self.now.sized.0 c.loop-start.invariant c.loop-start-test.false
