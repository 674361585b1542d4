-- Each return gives the definition's answer, and what that means is shown once.
use Rattle.std.proofs.Common.{◌≡◌, Err, rules, sym, ap, ◌∙◌}
use Rattle.std.proofs.lemmas.Result.{err_from_is_err_and}
use Rattle.isa.specs.Slot.{slot_count}
use Rattle.isa.specs.Lawful.{fault_at, leaving_in, leaving_at, lawfulness}
use Rattle.isa.proofs.First.{none_more, one_more, or_same, or_nothing}
use Rattle.isa.proofs.Refusing.{ok_from}
use Rattle.isa.proofs.Judging.{faultless_at, slot_refused, judged}
use Rattle.isa.proofs.lawful.lawful.Goals as goal
use Rattle.isa.proofs.lawful.lawful.Goals.{in-Some, in-None+in_ok-check_slot-in-None}

pub returns-then-not-well_sized-clause-judged : goal.returns-then-not-well_sized-clause-judged
returns-then-not-well_sized-clause-judged c = judged c.args.image.now _ (search rules)

pub returns-in_err-check_slot-in-None : goal.returns-in_err-check_slot-in-None
returns-in_err-check_slot-in-None c =
    let p = err_from_is_err_and c.from_residual.result c.from_residual.ensures.1 in
    let e : c.from_residual.result ≡ lawfulness c.args.image.now =
    p.1 ∙ ap Err p.2
    ∙ sym (slot_refused c.args.image.now c.loop-slot.slot _ (sym c.if-not-well_sized.ensures) c.loop-slot-test.true c.loop-slot.invariant.0 (sym c.in_err-check_slot-in-None.ensures)) in
    record { value = e; judged = judged c.args.image.now _ e }

pub loop-slot-preserved : goal.loop-slot-preserved
loop-slot-preserved c =
    let image = c.args.image.now in
    let slot = c.loop-slot.slot in
    let before = c.loop-slot.invariant in
    elim c.match-instruction_at.branch [
      | in-Some w ↦ (
        none_more (fault_at image) slot before.0 (faultless_at image slot _ (sym c.if-not-well_sized.ensures) (sym w.in-Some.ensures.value)),
        w.leaving-is ∙ w.or-leaving.ensures ∙ or_same c.loop-slot.leaving w.leaving_by.result
            ∙ one_more (leaving_at image (slot_count image)) slot _ _ before.1
            (w.leaving_by.ensures ∙ ap (λ o. leaving_in o (slot_count image)) w.in-Some.ensures.value),
      )
      | in-None+in_ok-check_slot-in-None w ↦ (
        none_more (fault_at image) slot before.0 (ok_from _ (sym w.in_ok-check_slot-in-None.ensures)),
        w.leaving-is ∙ sym (or_nothing _)
            ∙ one_more (leaving_at image (slot_count image)) slot _ _ before.1 (ap (λ o. leaving_in o (slot_count image)) w.in-None.ensures.value),
      )
    ]

pub returns-clause-judged : goal.returns-clause-judged
returns-clause-judged c = judged c.args.image.now _ (search rules)
