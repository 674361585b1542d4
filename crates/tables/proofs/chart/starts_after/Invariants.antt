use Rattle.tables.proofs.Charting.{Starting}
use Rattle.tables.proofs.chart.starts_after.Given as goal

abbrev pub invariant-loop-at : goal.invariant-loop-at
invariant-loop-at l = Starting l.saves l.reached l.starts l.at
