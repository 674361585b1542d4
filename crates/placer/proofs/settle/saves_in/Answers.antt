use Rattle.std.proofs.Common.{ℕ, Bool, cond, ap, subst, ◌∙◌, arith}
use Rattle.walks.specs.ImageGraph.{graph_of}
use Rattle.walks.specs.Placing.{allowed, dropped}
use Rattle.placer.specs.Turned.{Turns}
use Rattle.placer.proofs.Settling.{plain_of}
use Rattle.placer.proofs.Turning.{idle_all}
use Rattle.placer.proofs.settle.saves_in.Goals as goal

pub returns : goal.returns
returns g c n =
    let by = c.args.by.now in
    let m = g.M.PriceModel.means by.model.now in
    let image = c.args.image.now in
    let lawful = c.requires in
    let h = graph_of m image in
    let ok = allowed m.dearest h by.budget in
    let nodes = c.of-chart.result.nodes in
    let turned = c.turn_all-turned in
    let plain = plain_of m (g.met.M.PriceModel.bounded by.model.now) image lawful nodes c.of-chart.result.starts (c.of-chart.ensures.chart lawful) in
    let turns = subst (λ (s : ℕ). Turns s h nodes turned.result) c.dearest.ensures (turned.ensures.turns m) in
    ap (λ (P : ℕ → Bool). P n) (c.settle.ensures m.dearest h plain (omega arith) turns)
    ∙ ap (λ (P : ℕ → Bool). cond (ok P) (dropped ok h.size 0 P) P n)
    (idle_all image lawful turned.result.saves turned.ensures.saves)
