-- What a step draws. Assumes nothing.
--     d                         the price model
--     spending_of d x           what an instruction spends at its operands
--     amount_for d e p          what a step of effect e draws with p pending records: a saving for a save or where there is no
--                               instruction, a spending and a saving for another ending, else a spending
--     pending κ σ               the records of σ after the log of the kept state κ
--     amount_of d image tape κ σ     what the step at σ draws
use Rattle.std.specs.Prelude.{ℕ, ◌+◌, ◌-◌, List}
use Rattle.machine.specs.declared.effect.Effect.{Effect}
use Rattle.machine.specs.declared.effect.Effect.TheVariants.{Nothing, NoInstruction, Save, End, Other}
use Rattle.machine.specs.declared.effect.Work.{Work}
use Rattle.machine.specs.declared.state.State.{State}
use Rattle.machine.specs.Step.{mains_effect}
use Rattle.pricing.specs.Model.{Model}

abbrev pub spending_of : Model → Work → ℕ
spending_of d x = d.spending x.opcode x.imm x.a x.b

abbrev pub amount_for : Model → Effect → ℕ → ℕ
amount_for d Nothing p = 0
amount_for d NoInstruction p = d.saving p
amount_for d (Save x) p = d.saving p
amount_for d (End x) p = spending_of d x + d.saving p
amount_for d (Other x) p = spending_of d x

abbrev pub pending : State → State → ℕ
pending κ σ = σ.logged - κ.logged

unfoldable pub amount_of : Model → List ℕ → List ℕ → State → State → ℕ
amount_of d image tape κ σ = amount_for d (mains_effect image tape σ) (pending κ σ)
