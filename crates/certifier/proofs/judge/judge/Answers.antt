use Rattle.std.proofs.Common.{refl, take, arith}
use Rattle.std.proofs.lemmas.Grind.{common_steps}
use Rattle.isa.specs.Slot.{slot_count}
use Rattle.walks.specs.ImageGraph.{graph_of}
use Rattle.certifier.specs.Judge.{looping}
use Rattle.certifier.proofs.Fitting.{table_of_image}
use Rattle.certifier.proofs.Searching.{lowest_looped}
use Rattle.certifier.proofs.judge.judge.Goals as goal

pub returns-in_default : goal.returns-in_default
returns-in_default g c =
    let m = g.M.PriceModel.means c.args.by.now.model.now in
    let image = c.args.image.now in
    let t = table_of_image m (g.met.M.PriceModel.bounded c.args.by.now.model.now) image c.requires.lawful
    c.args.chart.now.nodes c.args.chart.now.starts c.requires.chart in
    looping
    (lowest_looped (graph_of m image) t.sound t.size c.args.chart.now.nodes t.described t.beyond (take (slot_count image) c.args.chart.now.starts)
    (let e = c.requires.sized.1 in grind (arith, common_steps)) t.told
    c.lowest_loop.result c.lowest_loop.ensures) (refl {a = c.args.worths.now})

pub returns : goal.returns
returns g c =
    let m = g.M.PriceModel.means c.args.by.now.model.now in
    let image = c.args.image.now in
    c.judge_order.ensures (graph_of m image)
    (table_of_image m (g.met.M.PriceModel.bounded c.args.by.now.model.now) image c.requires.lawful
    c.args.chart.now.nodes c.args.chart.now.starts c.requires.chart)
    c.args.worths.now c.clear.auto.worths c.clear.ensures
