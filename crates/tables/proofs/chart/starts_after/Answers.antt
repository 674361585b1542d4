use Rattle.tables.proofs.Charting.{starting, all_started}
use Rattle.tables.proofs.chart.starts_after.Goals as goal

pub loop-at-init : goal.loop-at-init
loop-at-init c = starting c.args.saves.now c.args.reached.now

pub returns : goal.returns
returns c = all_started c.loop-at.invariant c.loop-at-test.false
