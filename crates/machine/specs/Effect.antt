-- What a step did, as far as charge is spent on it. Assumes nothing.
--     work_of x σ           an instruction with the operands that it has at σ
--     effect_in r e x       its effect: a save, an end of the run where e says so, or neither
use Rattle.std.specs.Prelude.{Bool, if◌then◌else◌}
use Rattle.isa.specs.declared.instruction.Instruction.{Instruction}
use Rattle.isa.specs.declared.instruction.Role.{Role}
use Rattle.isa.specs.declared.instruction.Role.TheVariants as role
use Rattle.machine.specs.declared.effect.Work.{Work}
use Rattle.machine.specs.declared.effect.Effect.{Effect}
use Rattle.machine.specs.declared.effect.Effect.TheVariants.{Save, End, Other}
use Rattle.machine.specs.declared.state.State.{State}
use Rattle.machine.specs.Operand.{operands_of}

abbrev pub work_of : Instruction → State → Work
work_of x σ =
    record { opcode = x.fields.opcode; imm = x.fields.imm; a = (operands_of x.kind x σ).0; b = (operands_of x.kind x σ).1 }

abbrev pub effect_in : Role → Bool → Work → Effect
effect_in role.Save e x = Save x
effect_in role.Idle e x = if e then End x else Other x
effect_in role.Exit e x = if e then End x else Other x
effect_in role.Other e x = if e then End x else Other x
