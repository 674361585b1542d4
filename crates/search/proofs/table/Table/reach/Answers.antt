use Rattle.search.proofs.Flooding.{begins, tells_starts}
use Rattle.search.proofs.table.Table.reach.Goals as goal

pub loop-start-init : goal.loop-start-init
loop-start-init c = begins c.new-flood.ensures.seen c.new-flood.ensures.queue

pub returns : goal.returns
returns c = tells_starts _ c.loop-start.invariant c.loop-start-test.false c.spread.ensures
