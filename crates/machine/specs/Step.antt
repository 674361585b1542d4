-- One step of a run, of any bytes as image, any tape and any state. Assumes nothing.
--     mains_step image tape σ        the state after a step: the instruction at the slot is executed, or there is none, which is
--                                    trap 1; an ended state stays
--     mains_effect image tape σ      what that step did
--     is_save e                      that was a save
--     saves_at image σ               the instruction at the slot is a save
--     LeadsTo x z                    slot z is a way out of an instruction
--     StepLaws image tape σ          what a step leaves as it was, where it leads, and what it tells
use Rattle.std.specs.Prelude.{◌≡◌, ℕ, Bool, true, false, if◌then◌else◌, ◌⊎◌, List, ℤ, Some, None, Option}
use Rattle.isa.specs.declared.instruction.Instruction.{Instruction}
use Rattle.isa.specs.declared.instruction.Role.{Role}
use Rattle.isa.specs.declared.instruction.Role.TheVariants as role
use Rattle.isa.specs.Instruction.{ways_out, role_of}
use Rattle.machine.specs.declared.effect.Effect.{Effect}
use Rattle.machine.specs.declared.effect.Effect.TheVariants as effect
use Rattle.machine.specs.declared.ending.Ending.{Ending}
use Rattle.machine.specs.declared.ending.Ending.TheVariants as ending
use Rattle.machine.specs.declared.ending.Trap.TheVariants.{BadSlot}
use Rattle.machine.specs.declared.state.State.{State}
use Rattle.machine.specs.Effect.{work_of, effect_in}
use Rattle.machine.specs.Execute.{executed}
use Rattle.machine.specs.Fetch.{fetched}
use Rattle.machine.specs.State.{moved_to, ended_by, ended}

abbrev pub step_by : Option Instruction → List ℕ → State → State
step_by (Some x) tape σ = executed tape x σ
step_by None tape σ = ended_by σ (ending.Trap BadSlot)

unfoldable pub mains_step : List ℕ → List ℕ → State → State
mains_step image tape σ = if ended σ then σ else step_by (fetched image σ.slot) tape σ

abbrev pub effect_by : Instruction → List ℕ → State → Effect
effect_by x tape σ = effect_in (role_of x) (ended (executed tape x σ)) (work_of x σ)

abbrev pub effect_at : Option Instruction → List ℕ → State → Effect
effect_at (Some x) tape σ = effect_by x tape σ
effect_at None tape σ = effect.NoInstruction

unfoldable pub mains_effect : List ℕ → List ℕ → State → Effect
mains_effect image tape σ = if ended σ then effect.Nothing else effect_at (fetched image σ.slot) tape σ

abbrev pub is_save : Effect → Bool
is_save effect.Nothing = false
is_save effect.NoInstruction = false
is_save (effect.Save x) = true
is_save (effect.End x) = false
is_save (effect.Other x) = false

abbrev pub saves_as : Role → Bool
saves_as role.Save = true
saves_as role.Idle = false
saves_as role.Exit = false
saves_as role.Other = false

abbrev pub saves_by : Option Instruction → Bool
saves_by (Some x) = saves_as (role_of x)
saves_by None = false

unfoldable pub saves_at : List ℕ → State → Bool
saves_at image σ = saves_by (fetched image σ.slot)

abbrev pub LeadsTo : Instruction → ℤ → Type 0
LeadsTo x z = ((ways_out x).0 ≡ Some z) ⊎ ((ways_out x).1 ≡ Some z)

pub record StepLaws (image tape : List ℕ) (σ : State) : Type 0 where
  -- a run that has ended stays as it is
  pub stays : ended σ ≡ true → mains_step image tape σ ≡ σ
  -- an ending changes nothing else
  pub ends : ended σ ≡ false → ended (mains_step image tape σ) ≡ true → (e : Ending) × (mains_step image tape σ ≡ ended_by σ e)
  -- a step that does not end the run follows a way out of the instruction
  pub moves : ended (mains_step image tape σ) ≡ false
      → (x : Instruction) × (fetched image σ.slot ≡ Some x) × LeadsTo x (mains_step image tape σ).slot
  -- where there is no legal instruction the run ends by trap 1, and that is told
  pub lacks : ended σ ≡ false → fetched image σ.slot ≡ None
      → (mains_step image tape σ ≡ ended_by σ (ending.Trap BadSlot)) × (mains_effect image tape σ ≡ effect.NoInstruction)
  -- an instruction is told with its operands, and whether it ended the run
  pub works : ended σ ≡ false → (x : Instruction) → fetched image σ.slot ≡ Some x
      → mains_effect image tape σ ≡ effect_in (role_of x) (ended (mains_step image tape σ)) (work_of x σ)
  -- a save changes the slot alone, and is told
  pub saves : ended σ ≡ false → saves_at image σ ≡ true → (z : ℤ) × (mains_step image tape σ ≡ moved_to σ z)
  pub tells : ended σ ≡ false → is_save (mains_effect image tape σ) ≡ saves_at image σ
