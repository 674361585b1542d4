-- The numbers of the refusals. Assumes nothing.
--     told_of r        a refusal's number, its slot and its price; 0 where it has none
--     told_by u        the same of a refusal that another one carries
--     carried_of r     what a refusal carries besides
--     ok_unless r a    a, or the refusal where there is one
use Rattle.std.specs.Prelude.{ℕ, Some, None, Ok, Err, Option, Result}
use Rattle.isa.specs.declared.refusal.Told.{Told}
use Rattle.isa.specs.declared.refusal.Unplaceable.{Unplaceable}
use Rattle.isa.specs.declared.refusal.Unplaceable.TheVariants as unplaceable
use Rattle.isa.specs.declared.refusal.Refusal.{Refusal}
use Rattle.isa.specs.declared.refusal.Refusal.TheVariants.{Length, IllegalOpcode, NoRegister, FieldNotZero, FramePointer, NoHelper, WayOut, Budget, Loop, OverBudget, NoPlacement, WorkingList, SupplyNumbers, Ended, Attempts, Cuts, NoRecord}

abbrev pub told : ℕ → ℕ → ℕ → Told
told number slot price = record { number = number; slot = slot; price = price }

abbrev pub told_by : Unplaceable → Told
told_by (unplaceable.Loop slot) = told 9 slot 0
told_by (unplaceable.OverBudget slot price) = told 10 slot price

abbrev pub told_of : Refusal → Told
told_of Length = told 1 0 0
told_of (IllegalOpcode slot) = told 2 slot 0
told_of (NoRegister slot) = told 3 slot 0
told_of (FieldNotZero slot) = told 4 slot 0
told_of (FramePointer slot) = told 5 slot 0
told_of (NoHelper slot) = told 6 slot 0
told_of (WayOut slot) = told 7 slot 0
told_of Budget = told 8 0 0
told_of (Loop slot) = told 9 slot 0
told_of (OverBudget slot price) = told 10 slot price
told_of (NoPlacement carried) = told 11 0 0
told_of WorkingList = told 12 0 0
told_of SupplyNumbers = told 13 0 0
told_of Ended = told 21 0 0
told_of Attempts = told 22 0 0
told_of Cuts = told 23 0 0
told_of NoRecord = told 24 0 0

abbrev pub carried_of : Refusal → Option Told
carried_of Length = None
carried_of (IllegalOpcode slot) = None
carried_of (NoRegister slot) = None
carried_of (FieldNotZero slot) = None
carried_of (FramePointer slot) = None
carried_of (NoHelper slot) = None
carried_of (WayOut slot) = None
carried_of Budget = None
carried_of (Loop slot) = None
carried_of (OverBudget slot price) = None
carried_of (NoPlacement carried) = Some (told_by carried)
carried_of WorkingList = None
carried_of SupplyNumbers = None
carried_of Ended = None
carried_of Attempts = None
carried_of Cuts = None
carried_of NoRecord = None

abbrev pub ok_unless : {A : Type 0} → Option Refusal → A → Result A Refusal
ok_unless None a = Ok a
ok_unless (Some r) a = Err r
