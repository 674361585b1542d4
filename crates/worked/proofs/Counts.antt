-- The counts of the small round, by computing its course.
use Rattle.std.proofs.Common.{◌≡◌, ℕ, ◌+◌, ◌-◌, ◌%◌, ◌^◌, List, ◌∷◌, Some, refl, ap, ◌∙◌}
use Rattle.isa.specs.Opcode.{kind_of, singles, classes, joined, access, branch, arithmetic, negation, sizes, tests, operations, under, source_of, code_of, class_of}
use Rattle.machine.specs.declared.ending.Ending.TheVariants.{Exit}
use Rattle.machine.specs.State.{initial, ending_of}
use Rattle.machine.specs.Step.{mains_step, mains_effect}
use Rattle.supply.specs.Capacitor.{Condition, fresh}
use Rattle.claims.specs.declared.call.Call.{Call}
use Rattle.claims.specs.declared.call.Call.TheVariants.{Step, Cut}
use Rattle.claims.specs.Amount.{amount_of}
use Rattle.worked.specs.Known.{round, small, steps, Known}
use Rattle.worked.proofs.Course.{Bare, bare, first, course, followed}

abbrev charges_of : Bare → ℕ
charges_of w = (w.supply.charges + (2 ^ 64 - w.before % 2 ^ 64)) % 2 ^ 64

record Told (w : Bare) (charges saves attempts : ℕ) : Type 0 where
  pub charges_are : charges_of w ≡ charges
  pub saves_are : w.saves ≡ saves
  pub attempts_are : w.attempts ≡ attempts
  pub exits : ending_of w.kept ≡ Some Exit

abbrev last : List Call → Bare
last cs = course round cs (first initial (fresh small))

known : (cs : List Call) (charges saves attempts : ℕ) → Told (last cs) charges saves attempts → Known cs charges saves attempts
known cs charges saves attempts t s new replies r h =
    let same : bare r ≡ last cs = followed round s cs replies r h ∙ ap (λ (k : Condition). course round cs (first initial k)) new in
    let told : Told (bare r) charges saves attempts = rw same t in
    record { charges_are = told.charges_are; saves_are = told.saves_are; attempts_are = told.attempts_are; exits = told.exits }

told : Told (last (steps 7)) 2 1 7 × Told (last (Step ∷ Step ∷ Cut ∷ steps 7)) 3 1 9
unfolding amount_of mains_step mains_effect kind_of singles classes joined access branch arithmetic negation sizes tests operations under source_of code_of class_of
told = (
  record { charges_are = refl; saves_are = refl; attempts_are = refl; exits = refl },
  record { charges_are = refl; saves_are = refl; attempts_are = refl; exits = refl },
)

pub straight : Known (steps 7) 2 1 7
straight = known (steps 7) 2 1 7 told.0

pub interrupted : Known (Step ∷ Step ∷ Cut ∷ steps 7) 3 1 9
interrupted = known (Step ∷ Step ∷ Cut ∷ steps 7) 3 1 9 told.1
