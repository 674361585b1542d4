use Rattle.std.proofs.Common.{ℕ, ◌/◌, ap}
use Rattle.tables.proofs.Charting.{finished, finished_chart}
use Rattle.tables.proofs.chart.Chart.of_lawful.Goals as goal

pub returns-then-chart-clause-chart : goal.returns-then-chart-clause-chart
returns-then-chart-clause-chart g c =
    let m = g.M.PriceModel.means c.args.model.now in
    let image = c.args.image.now in
    let told = c.finish.ensures in
    let opened = c.open_lawful.ensures in
    finished_chart m image
    (finished m image (c.min.result / 8) (ap (λ (n : ℕ). n / 8) c.min.ensures) (opened.nodes c.if-chart.true) (opened.saves c.if-chart.true) told.reached told.starts told.size told.nodes)
