use Rattle.std.proofs.Common.{ℕ, ◌+◌, ◌/◌, ap, ◌∙◌, rules, arith, Option, ◌&&◌}
use mathlib.Core.Path.{subst⁻¹}
use Rattle.isa.specs.declared.instruction.Instruction.{Instruction}
use Rattle.tables.specs.Chart.{staying_in}
use Rattle.tables.proofs.Charting.{Judging, opening, opens, opened_nodes, opened_saves, judging, judges, judged}
use Rattle.tables.proofs.chart.open.Goals as goal

pub loop-at-init : goal.loop-at-init
loop-at-init g c =
    let image = c.args.image.now in (
      opening (g.M.PriceModel.means c.args.model.now) image c.requires.nodes c.requires.saves,
      subst⁻¹ (Judging image (c.min-count.result / 8) 0) c.well_sized-lawful.ensures (judging image (c.min-count.result / 8)),
    )

pub loop-at-preserved : goal.loop-at-preserved
loop-at-preserved g c =
    let image = c.args.image.now in
    let n = c.min-count.result / 8 in
    let step = judges c.loop-at.invariant.1 (ap (λ (x : ℕ). x / 8) c.min-count.ensures) c.loop-at-test.true in (
      search (rules, opens (g.M.PriceModel.means c.args.model.now) image c.loop-at.invariant.0),
      subst⁻¹ (Judging image n (c.loop-at.at + 1))
          (c.stays-lawful.ensures ∙ ap (λ (o : Option Instruction). c.loop-at.lawful && staying_in o n) c.instruction_at-there.ensures.value) step,
    )

pub returns : goal.returns
returns g c =
    let m = g.M.PriceModel.means c.args.model.now in
    let image = c.args.image.now in
    let count = ap (λ (x : ℕ). x / 8) c.min-count.ensures in
    record {
      nodes = opened_nodes m image c.loop-at.invariant.0 (omega (arith, count, c.loop-at-test.false));
      saves = opened_saves m image c.loop-at.invariant.0 (omega (arith, count, c.loop-at-test.false));
      lawful = judged c.loop-at.invariant.1 count c.loop-at-test.false;
    }
