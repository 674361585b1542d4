-- What a page knows of the walks of its image. Assumes nothing.
--     leaves a                    the answer a leaves worths: it accepts, or refuses a price over budget
--     left a worths               the worths, where it leaves them
--     SurveyOf m image l o        o is the survey of a lawful image, with the worths l; none of any other image
--     Known m image a o           o is the survey of a lawful image, with the worths that the certifier left with its answer a
use Rattle.std.specs.Prelude.{ℕ, Bool, true, false, if◌then◌else◌, List, replicate, Option, Some, None, Result, Ok, Err}
use Rattle.isa.specs.declared.refusal.Refusal.{Refusal}
use Rattle.isa.specs.declared.refusal.Refusal.TheVariants.{Length, IllegalOpcode, NoRegister, FieldNotZero, FramePointer, NoHelper, WayOut, Budget, Loop, OverBudget, NoPlacement, WorkingList, SupplyNumbers, Ended, Attempts, Cuts, NoRecord}
use Rattle.isa.specs.Lawful.{Lawful}
use Rattle.pricing.specs.Model.{Model}
use Rattle.paths.specs.declared.worth.Worth.{Worth}
use Rattle.walks.specs.ImageGraph.{graph_of}
use Rattle.certifier.specs.Certify.{Left}
use Rattle.survey.specs.declared.survey.Survey.{Survey}
use Rattle.survey.specs.Survey.{Surveyed}

abbrev pub over_budget : Refusal → Bool
over_budget Length = false
over_budget (IllegalOpcode s) = false
over_budget (NoRegister s) = false
over_budget (FieldNotZero s) = false
over_budget (FramePointer s) = false
over_budget (NoHelper s) = false
over_budget (WayOut s) = false
over_budget Budget = false
over_budget (Loop s) = false
over_budget (OverBudget s p) = true
over_budget (NoPlacement u) = false
over_budget WorkingList = false
over_budget SupplyNumbers = false
over_budget Ended = false
over_budget Attempts = false
over_budget Cuts = false
over_budget NoRecord = false

abbrev pub leaves : Result (Unit {0}) Refusal → Bool
leaves (Ok u) = true
leaves (Err r) = over_budget r

abbrev pub left : Result (Unit {0}) Refusal → List Worth → Option (List Worth)
left a worths = if leaves a then Some worths else None

abbrev pub SurveyOf : Model → List ℕ → Option (List Worth) → Option Survey → Type 0
SurveyOf m image l None = Lawful image → ⊥
SurveyOf m image l (Some s) = Lawful image × Surveyed m image l s

abbrev pub Known : Model → List ℕ → Result (Unit {0}) Refusal → Option Survey → Type 0
Known m image a o =
    (worths : List Worth) × Left (graph_of m image) (replicate 1024 (record { price = 0; slot = 0 })) worths a
    × SurveyOf m image (left a worths) o
