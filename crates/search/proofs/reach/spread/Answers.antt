use Rattle.std.proofs.Common.{rules}
use Rattle.search.proofs.Flooding.{spreads, next_below, goes_on, ends, told}
use Rattle.search.proofs.reach.spread.Goals as goal

pub loop-next-init : goal.loop-next-init
loop-next-init c = spreads c.requires

pub bounds-nodes-node : goal.bounds-nodes-node
bounds-nodes-node c = next_below c.loop-next.invariant (search rules) (search rules)

pub loop-next-preserved : goal.loop-next-preserved
loop-next-preserved c = goes_on c.loop-next.invariant (search rules) (search rules) c.ways_within-first.ensures c.add.ensures c.add-in-loop-next.ensures

pub returns-after-loop-next : goal.returns-after-loop-next
returns-after-loop-next c = told c.args.nodes.now c.told-nodes c.loop-next.invariant (ends c.loop-next.invariant c.loop-next-test.false)

pub returns-in_default : goal.returns-in_default
returns-in_default c = told c.args.nodes.now c.told-nodes c.loop-next.invariant (search rules)
