-- Rounds whose answers are known. Assumes nothing.
--     six_slots               r1 = 7, the next reading, r2 = r0, an idle slot, a record, EXIT
--     two_slots               an idle slot, and a jump back to it
--     saved_loop              the same with a save in place of the idle slot
--     answer_at image budget  the answer by the prices of the operand model, with room for the worths
--     AnswersKnown            the answers about these rounds
use Rattle.std.specs.Prelude.{◌≡◌, ℕ, true, List, [], ◌∷◌, Ok, Err, Result}
use Rattle.isa.specs.declared.refusal.Refusal.{Refusal}
use Rattle.isa.specs.declared.refusal.Refusal.TheVariants.{Loop, OverBudget}
use Rattle.pricing.specs.Operand.{operand}
use Rattle.certifier.specs.Certify.{within_limits, certification}

abbrev pub six_slots : List ℕ
six_slots =
    0xb7 ∷ 0x01 ∷ 0 ∷ 0 ∷ 7 ∷ 0 ∷ 0 ∷ 0
    ∷ 0x85 ∷ 0x00 ∷ 0 ∷ 0 ∷ 2 ∷ 0 ∷ 0 ∷ 0
    ∷ 0xbf ∷ 0x02 ∷ 0 ∷ 0 ∷ 0 ∷ 0 ∷ 0 ∷ 0
    ∷ 0x05 ∷ 0x00 ∷ 0 ∷ 0 ∷ 0 ∷ 0 ∷ 0 ∷ 0
    ∷ 0x85 ∷ 0x00 ∷ 0 ∷ 0 ∷ 3 ∷ 0 ∷ 0 ∷ 0
    ∷ 0x95 ∷ 0x00 ∷ 0 ∷ 0 ∷ 0 ∷ 0 ∷ 0 ∷ 0 ∷ []

abbrev pub two_slots : List ℕ
two_slots =
    0x05 ∷ 0x00 ∷ 0 ∷ 0 ∷ 0 ∷ 0 ∷ 0 ∷ 0
    ∷ 0x05 ∷ 0x00 ∷ 0xfe ∷ 0xff ∷ 0 ∷ 0 ∷ 0 ∷ 0 ∷ []

abbrev pub saved_loop : List ℕ
saved_loop =
    0x85 ∷ 0x00 ∷ 0 ∷ 0 ∷ 1 ∷ 0 ∷ 0 ∷ 0
    ∷ 0x05 ∷ 0x00 ∷ 0xfe ∷ 0xff ∷ 0 ∷ 0 ∷ 0 ∷ 0 ∷ []

abbrev pub answer_at : List ℕ → ℕ → Result (Unit {0}) Refusal
answer_at image budget = certification operand image budget 1024

pub record AnswersKnown : Type 0 where
  pub six_paid : answer_at six_slots 258 ≡ Ok tt
  pub six_dear : answer_at six_slots 257 ≡ Err (OverBudget 0 258)
  -- whatever the budget
  pub two_loop : (budget : ℕ) → within_limits budget ≡ true → answer_at two_slots budget ≡ Err (Loop 0)
  pub saved_paid : answer_at saved_loop 149 ≡ Ok tt
  pub saved_dear : answer_at saved_loop 148 ≡ Err (OverBudget 1 149)
