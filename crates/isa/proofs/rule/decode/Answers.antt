use Rattle.std.proofs.Common.{◌≡◌, Some, None, Option, Result, sym, ap, ◌∙◌}
use Rattle.std.proofs.lemmas.Result.{err_from_is_err_and}
use Rattle.isa.specs.declared.kind.Kind.{Kind}
use Rattle.isa.specs.declared.slot.Slot.{Slot}
use Rattle.isa.specs.declared.instruction.Instruction.{Instruction}
use Rattle.isa.specs.declared.refusal.Refusal.{Refusal}
use Rattle.isa.specs.Opcode.{kind_of}
use Rattle.isa.specs.Refusal.{ok_unless}
use Rattle.isa.specs.Rule.{fault_of, decoded_as, decoded}
use Rattle.isa.proofs.Refusing.{ok_from, err_from}
use Rattle.isa.proofs.rule.decode.Goals as goal

by_fault : (s : Slot) (i : _) (k : Kind) → kind_of s.opcode ≡ Some k → (o : Option Refusal) → fault_of k s i ≡ o
    → ◌≡◌ {A = Result Instruction Refusal} (ok_unless o (record { at = i; kind = k; fields = s })) (decoded s i)
by_fault s i k e o p = sym (ap (λ x. decoded_as x s i) e ∙ ap (λ x. ok_unless {A = Instruction} x (record { at = i; kind = k; fields = s })) p)

pub returns-in_err-check_fields-clause-value : goal.returns-in_err-check_fields-clause-value
returns-in_err-check_fields-clause-value c =
    let p = err_from_is_err_and c.from_residual-in_err-check_fields.result c.from_residual-in_err-check_fields.ensures.1 in
    rw (p.1, p.2)
    (by_fault c.args.fields c.args.slot c.in_ok-kind.kind (sym c.kind_of.ensures ∙ c.in_ok-kind.ensures.ok_part)
    _ (err_from _ _ (sym c.in_err-check_fields.ensures)))

pub returns-clause-value : goal.returns-clause-value
returns-clause-value c =
    by_fault c.args.fields c.args.slot c.in_ok-kind.kind (sym c.kind_of.ensures ∙ c.in_ok-kind.ensures.ok_part)
    None (ok_from _ (sym c.in_ok-check_fields.ensures))
