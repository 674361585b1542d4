-- The operands of an instruction, as a state gives them. Assumes nothing.
--     source_value s x σ     the source value: imm extended by its sign, or the register src
--     address_of r x σ       a register plus the offset, going round at 64 bits
--     operands_of k x σ      the two operands that a price may depend on: dst and source value of arithmetic and of a conditional
--                            jump (NEG has no second), address and cut value of a store, r1 and r2 of CALL, else 0 and 0
use Rattle.std.specs.Prelude.{ℕ, ◌+◌, ◌%◌, ◌^◌, if◌then◌else◌}
use Rattle.std.specs.Int.{w64}
use Rattle.std.proofs.Common.{of_z}
use Rattle.isa.specs.declared.kind.Operation.{Operation}
use Rattle.isa.specs.declared.kind.Source.{Source}
use Rattle.isa.specs.declared.kind.Source.TheVariants.{Imm, Register}
use Rattle.isa.specs.declared.kind.Kind.{Kind}
use Rattle.isa.specs.declared.kind.Kind.TheVariants.{Arithmetic, Branch, Jump, Call, Exit, Load, StoreImm, StoreReg}
use Rattle.isa.specs.declared.instruction.Instruction.{Instruction}
use Rattle.isa.specs.Rule.{is_neg}
use Rattle.isa.specs.Size.{cut_to}
use Rattle.machine.specs.declared.state.State.{State}
use Rattle.machine.specs.State.{register_of}

abbrev pub source_value : Source → Instruction → State → ℕ
source_value Imm x σ = of_z w64 x.fields.imm
source_value Register x σ = register_of σ x.fields.src

abbrev pub address_of : ℕ → Instruction → State → ℕ
address_of r x σ = (register_of σ r + of_z w64 x.fields.offset) % 2 ^ 64

abbrev pub second_of : Operation → Source → Instruction → State → ℕ
second_of o s x σ = if is_neg o then 0 else source_value s x σ

abbrev pub operands_of : Kind → Instruction → State → ℕ × ℕ
operands_of (Arithmetic w o s) x σ = (register_of σ x.fields.dst, second_of o s x σ)
operands_of (Branch w t s) x σ = (register_of σ x.fields.dst, source_value s x σ)
operands_of Jump x σ = (0, 0)
operands_of Call x σ = (register_of σ 1, register_of σ 2)
operands_of Exit x σ = (0, 0)
operands_of (Load z) x σ = (0, 0)
operands_of (StoreImm z) x σ = (address_of x.fields.dst x σ, cut_to z (of_z w64 x.fields.imm))
operands_of (StoreReg z) x σ = (address_of x.fields.dst x σ, cut_to z (register_of σ x.fields.src))
