-- What the certifier's answer says of one slot. Assumes nothing.
--     here s n r          r where s is slot n, else none
--     remark_of a n       what the answer a says of slot n
use Rattle.std.specs.Prelude.{ℕ, ◌==◌, if◌then◌else◌, Option, Some, None, Result, Ok, Err}
use Rattle.isa.specs.declared.refusal.Refusal.{Refusal}
use Rattle.isa.specs.declared.refusal.Refusal.TheVariants.{Length, IllegalOpcode, NoRegister, FieldNotZero, FramePointer, NoHelper, WayOut, Budget, Loop, OverBudget, NoPlacement, WorkingList, SupplyNumbers, Ended, Attempts, Cuts, NoRecord}
use Rattle.survey.specs.declared.remark.Remark.{Remark}
use Rattle.survey.specs.declared.remark.Remark.TheVariants.{Twice, Dear, Unlawful}

abbrev pub here : ℕ → ℕ → Remark → Option Remark
here s n r = if s == n then Some r else None

abbrev pub remark_in : Refusal → ℕ → Option Remark
remark_in Length n = None
remark_in (IllegalOpcode s) n = here s n Unlawful
remark_in (NoRegister s) n = here s n Unlawful
remark_in (FieldNotZero s) n = here s n Unlawful
remark_in (FramePointer s) n = here s n Unlawful
remark_in (NoHelper s) n = here s n Unlawful
remark_in (WayOut s) n = here s n Unlawful
remark_in Budget n = None
remark_in (Loop s) n = here s n Twice
remark_in (OverBudget s p) n = here s n Dear
remark_in (NoPlacement u) n = None
remark_in WorkingList n = None
remark_in SupplyNumbers n = None
remark_in Ended n = None
remark_in Attempts n = None
remark_in Cuts n = None
remark_in NoRecord n = None

abbrev pub remark_of : Result (Unit {0}) Refusal → ℕ → Option Remark
remark_of (Ok u) n = None
remark_of (Err r) n = remark_in r n
