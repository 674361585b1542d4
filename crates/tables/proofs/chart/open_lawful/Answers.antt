use Rattle.std.proofs.Common.{ℕ, ◌+◌, ◌/◌, true, sym, ap, ◌∙◌, subst, rules, Option, ◌&&◌, true≢false}
use Rattle.isa.specs.declared.instruction.Instruction.{Instruction}
use Rattle.tables.specs.Chart.{staying_in}
use Rattle.tables.proofs.Charting.{Judging, opening, opens, judging, judges, judged}
use Rattle.tables.proofs.chart.open_lawful.Goals as goal

pub loop-at-init : goal.loop-at-init
loop-at-init g c =
    let image = c.args.image.now in
    let n = c.min-count.result / 8 in (
      opening (g.M.PriceModel.means c.args.model.now) image c.requires.nodes c.requires.saves,
      subst (Judging image n 0) (sym c.well_sized.ensures ∙ c.if-not-well_sized.false) (judging image n),
    )

pub returns-then-not-stays-clause-lawful : goal.returns-then-not-stays-clause-lawful
returns-then-not-stays-clause-lawful g c =
    let n = c.min-count.result / 8 in
    let step = judges c.loop-at.invariant.1 (ap (λ (x : ℕ). x / 8) c.min-count.ensures) c.loop-at-test.true in (
      λ e. absurd (true≢false (sym e)),
      λ lawful.
          sym c.if-not-stays.true ∙ c.stays.ensures ∙ ap (λ (o : Option Instruction). true && staying_in o n) c.instruction_at-there.ensures.value
          ∙ step.no lawful,
    )

pub loop-at-preserved : goal.loop-at-preserved
loop-at-preserved g c =
    let image = c.args.image.now in
    let n = c.min-count.result / 8 in
    let step = judges c.loop-at.invariant.1 (ap (λ (x : ℕ). x / 8) c.min-count.ensures) c.loop-at-test.true in
    let stays = c.stays.ensures ∙ ap (λ (o : Option Instruction). true && staying_in o n) c.instruction_at-there.ensures.value in (
      search (rules, opens (g.M.PriceModel.means c.args.model.now) image c.loop-at.invariant.0),
      subst (Judging image n (c.loop-at.at + 1)) (sym stays ∙ c.if-not-stays.false) step,
    )

pub returns-clause-lawful : goal.returns-clause-lawful
returns-clause-lawful g c =
    let count = ap (λ (x : ℕ). x / 8) c.min-count.ensures in judged c.loop-at.invariant.1 count c.loop-at-test.false
