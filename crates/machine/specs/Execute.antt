-- What each kind of instruction does to a state. Assumes nothing.
--     went_on x σ            σ at the slot after an instruction
--     jumped x σ             σ at the slot that its offset names
--     computed w o s x σ     arithmetic: dst becomes the result
--     branched w t s x σ     a conditional jump: taken where the test holds of dst and the source value
--     read_from z x σ        a load: dst becomes the number at the address, with zeros above it
--     written_to z v x σ     a store of v at the address
--     sampled tape x σ       the helper that puts the next reading into r0
--     recorded x σ           the helper that appends a record of r1 modulo 256 and r2, and clears r0
--     called tape x σ        CALL: the helper that imm names; a save changes the slot alone
--     executed tape x σ     any instruction
-- An access outside memory, a finished tape and a full log end the run.
use Rattle.std.specs.Prelude.{ℕ, ◌+◌, ◌%◌, if◌then◌else◌, List, length, Some, None, Option, nat_lt, slice_index}
use Rattle.std.specs.Int.{w64}
use Rattle.std.proofs.Common.{of_z}
use Rattle.isa.specs.declared.kind.Width.{Width}
use Rattle.isa.specs.declared.kind.Operation.{Operation}
use Rattle.isa.specs.declared.kind.Test.{Test}
use Rattle.isa.specs.declared.kind.Source.{Source}
use Rattle.isa.specs.declared.kind.Size.{Size}
use Rattle.isa.specs.declared.kind.Kind.{Kind}
use Rattle.isa.specs.declared.kind.Kind.TheVariants.{Arithmetic, Branch, Jump, Call, Exit, Load, StoreImm, StoreReg}
use Rattle.isa.specs.declared.instruction.Instruction.{Instruction}
use Rattle.isa.specs.Instruction.{next_of, target_of}
use Rattle.machine.specs.declared.ending.Ending.TheVariants as ending
use Rattle.machine.specs.declared.ending.Trap.TheVariants.{BadSlot, OutsideMemory, TapeFinished, LogFull}
use Rattle.isa.specs.declared.helper.Helper.{Helper}
use Rattle.isa.specs.declared.helper.Helper.TheVariants as helper
use Rattle.machine.specs.declared.state.State.{State}
use Rattle.alu.specs.Arithmetic.{applied}
use Rattle.alu.specs.Comparison.{compared}
use Rattle.isa.specs.Helper.{helper_of}
use Rattle.alu.specs.Memory.{inside, loaded, stored}
use Rattle.machine.specs.Operand.{source_value, address_of}
use Rattle.machine.specs.State.{register_of, moved_to, with_register, with_memory, with_place, with_record, ended_by}

abbrev pub went_on : Instruction → State → State
went_on x σ = moved_to σ (next_of x)

abbrev pub jumped : Instruction → State → State
jumped x σ = moved_to σ (target_of x)

abbrev pub computed : Width → Operation → Source → Instruction → State → State
computed w o s x σ =
    went_on x (with_register σ x.fields.dst (applied w o (register_of σ x.fields.dst) (source_value s x σ)))

abbrev pub branched : Width → Test → Source → Instruction → State → State
branched w t s x σ = if compared w t (register_of σ x.fields.dst) (source_value s x σ) then jumped x σ else went_on x σ

abbrev pub read_as : Option ℕ → Instruction → State → State
read_as (Some v) x σ = went_on x (with_register σ x.fields.dst v)
read_as None x σ = ended_by σ (ending.Trap OutsideMemory)

abbrev pub read_from : Size → Instruction → State → State
read_from z x σ = read_as (loaded σ.memory (address_of x.fields.src x σ) z) x σ

abbrev pub written_to : Size → ℕ → Instruction → State → State
written_to z v x σ =
    if inside (address_of x.fields.dst x σ) z
    then went_on x (with_memory σ (stored σ.memory (address_of x.fields.dst x σ) z v))
    else ended_by σ (ending.Trap OutsideMemory)

abbrev pub sampled : List ℕ → Instruction → State → State
sampled tape x σ =
    if nat_lt σ.place (length tape)
    then went_on x (with_register (with_place σ (σ.place + 1)) 0 (slice_index tape σ.place))
    else ended_by σ (ending.Trap TapeFinished)

abbrev pub recorded : Instruction → State → State
recorded x σ =
    if nat_lt σ.logged 64
    then went_on x (with_register (with_record σ (record { sensor = register_of σ 1 % 256; value = register_of σ 2 })) 0 0)
    else ended_by σ (ending.Trap LogFull)

-- a CALL that names no helper is no legal instruction
abbrev pub called_by : Option Helper → List ℕ → Instruction → State → State
called_by (Some helper.Save) tape x σ = went_on x σ
called_by (Some helper.NextReading) tape x σ = sampled tape x σ
called_by (Some helper.Record) tape x σ = recorded x σ
called_by None tape x σ = ended_by σ (ending.Trap BadSlot)

abbrev pub called : List ℕ → Instruction → State → State
called tape x σ = called_by (helper_of x.fields.imm) tape x σ

abbrev pub executed_by : Kind → List ℕ → Instruction → State → State
executed_by (Arithmetic w o s) tape x σ = computed w o s x σ
executed_by (Branch w t s) tape x σ = branched w t s x σ
executed_by Jump tape x σ = jumped x σ
executed_by Call tape x σ = called tape x σ
executed_by Exit tape x σ = ended_by σ ending.Exit
executed_by (Load z) tape x σ = read_from z x σ
executed_by (StoreImm z) tape x σ = written_to z (of_z w64 x.fields.imm) x σ
executed_by (StoreReg z) tape x σ = written_to z (register_of σ x.fields.src) x σ

abbrev pub executed : List ℕ → Instruction → State → State
executed tape x σ = executed_by x.kind tape x σ
