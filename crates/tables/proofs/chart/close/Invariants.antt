use Rattle.tables.proofs.Charting.{Closing}
use Rattle.tables.proofs.chart.close.Given as goal

abbrev pub invariant-loop-at : goal.invariant-loop-at
invariant-loop-at l = Closing l.fn.nodes l.saves l.nodes l.at
