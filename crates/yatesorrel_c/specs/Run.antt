-- A step of the mains run in plain numbers. Assumes nothing.
--     step_of t d x      what is told: a refusal t, what the step did, and the instruction x with its operands
--     no_work            an instruction of zeros, where there is none
--     step_in e          what is told of a step of the effect e
--     own_step o         what is told where the call from C refuses by itself
--     StepDone image tape σ τ a     a step at σ left τ, whose ending is one that a run comes to, and a tells its effect
use Rattle.std.specs.Prelude.{◌≡◌, ℕ, List, pos, None}
use Rattle.machine.specs.declared.effect.Effect.{Effect}
use Rattle.machine.specs.declared.effect.Effect.TheVariants.{Nothing, NoInstruction, Save, End, Other}
use Rattle.machine.specs.declared.effect.Work.{Work}
use Rattle.machine.specs.declared.state.State.{State}
use Rattle.machine.specs.Step.{mains_step, mains_effect, StepLaws}
use Rattle.yatesorrel_c.specs.declared.told.Own.{Own}
use Rattle.yatesorrel_c.specs.declared.told.PlainTold.{PlainTold}
use Rattle.yatesorrel_c.specs.declared.run.PlainStep.{PlainStep}
use Rattle.yatesorrel_c.specs.Told.{told_in, own_told}
use Rattle.yatesorrel_c.specs.State.{Known}

abbrev pub step_of : PlainTold → ℕ → Work → PlainStep
step_of t d x = record { refusal = t; did = d; opcode = x.opcode; imm = x.imm; a = x.a; b = x.b }

abbrev pub no_work : Work
no_work = record { opcode = 0; imm = pos 0; a = 0; b = 0 }

abbrev pub step_in : Effect → PlainStep
step_in Nothing = step_of (told_in None) 0 no_work
step_in NoInstruction = step_of (told_in None) 1 no_work
step_in (Save x) = step_of (told_in None) 2 x
step_in (End x) = step_of (told_in None) 3 x
step_in (Other x) = step_of (told_in None) 4 x

abbrev pub own_step : Own → PlainStep
own_step o = step_of (own_told o) 0 no_work

pub record StepDone (image tape : List ℕ) (σ τ : State) (a : PlainStep) : Type 0 where
  pub left : τ ≡ mains_step image tape σ
  pub known : Known τ
  pub told : a ≡ step_in (mains_effect image tape σ)
  pub laws : StepLaws image tape σ
