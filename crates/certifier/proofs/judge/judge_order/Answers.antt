use Rattle.std.proofs.Common.{◌∙◌}
use Rattle.certifier.proofs.Ordered.{judged_ordered}
use Rattle.certifier.proofs.judge.judge_order.Goals as goal

pub returns : goal.returns
returns g c h t old same cleared =
    let table = c.args.table.now in
    judged_ordered h t.sound t.size table.nodes.now t.described t.beyond table.starts.now table.sized.1 t.told
    c.args.order.now c.requires.sorted
    g.V.PathValue.kind g.met.V.PathValue.laws g.V.Priced.price c.args.budget old c.args.worths.now c.fill.new.worths
    c.requires.room (c.fill.auto.worths ∙ same) cleared c.fill.ensures.untouched c.fill.ensures.worths c.charge.result c.charge.ensures
