use Rattle.std.proofs.Common.{true}
use Rattle.tables.proofs.Charting.{Opening, Judging}
use Rattle.tables.proofs.chart.open_lawful.Given as goal

abbrev pub invariant-loop-at : goal.invariant-loop-at
invariant-loop-at g l = Opening (g.M.PriceModel.means l.model) l.image l.nodes l.saves l.at × Judging l.image l.count l.at true
