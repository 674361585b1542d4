-- The plain numbers tell the rig that steps, and the prices tell the model.
use Rattle.std.proofs.Common.{IfSome, sym, subst}
use Rattle.rig.specs.Seen.{rig_on}
use Rattle.yatesorrel_c.specs.Attempt.{AttemptDone}
use Rattle.yatesorrel_c.specs.Lent.{lent_model}
use Rattle.yatesorrel_c.proofs.Telling.{of_rig, begun, lying, written}
use Rattle.yatesorrel_c.proofs.Whole.{stepped_whole}
use Rattle.yatesorrel_c.proofs.attempt.yatesorrel_rig_step.Goals as goal

pub returns-in_default-prices-clause-unbegun : goal.returns-in_default-prices-clause-unbegun
returns-in_default-prices-clause-unbegun c = begun c.args.rig.now c.in-Some.source c.in-Some.ensures

pub returns-clause-unbegun : goal.returns-clause-unbegun
returns-clause-unbegun c = begun c.args.rig.now c.in-Some.source c.in-Some.ensures

pub returns-clause-stepped : goal.returns-clause-stepped
returns-clause-stepped c = λ r w e.
    let image = c.args.image.now in
    let tape = c.args.tape.now in
    let model = lent_model c.in-Some-prices.prices in
    let before = rig_on c.in-Some.source c.args.rig.now.standing in
    let after = rig_on c.step.new.supply c.step.new.self in
    let step = c.in-Some-step.ensures in
    let left = lying c.of-rig.result c.step.new.self in
    subst (λ o. IfSome o (λ m. AttemptDone m image tape r left c.of.result)) (sym c.in-Some-prices.ensures)
    (of_rig (λ s. AttemptDone model image tape s left c.of.result) _ before c.in-Some.ensures.1
    (record {
      answer = c.in-Some-step.attempt;
      left = after;
      whole = stepped_whole model image tape before after _ c.in-Some.ensures.0 step.1;
      stepped = step.1;
      written = written _ c.step.new.supply _ c.of-rig.ensures;
      told = c.of.ensures;
    })
    r e)
