-- The operand model: a price for the class of the opcode, and what the operands add to it. Assumes nothing.
--     class_price c           the price of class c, an opcode modulo 8: LDX 3, ST and STX 4, ALU64 2, the others 1
--     dividing op             what an operation of arithmetic adds: DIV and MOD 6
--     added k imm a b         what an instruction of kind k adds; an illegal opcode has no kind, and adds nothing
--     added_most k imm        the most that it adds
--     saving p                what a saving with p pending records spends
--     operand                 the model
use Rattle.std.specs.Prelude.{ℕ, ◌+◌, ◌*◌, ◌%◌, min, if◌then◌else◌, ◌||◌, ℤ, Some, None, Option, ◌==◌}
use Rattle.isa.specs.declared.kind.Operation.{Operation}
use Rattle.isa.specs.declared.kind.Operation.TheVariants as operation
use Rattle.isa.specs.declared.kind.Kind.{Kind}
use Rattle.isa.specs.declared.kind.Kind.TheVariants.{Arithmetic, Branch, Jump, Call, Exit, Load, StoreImm, StoreReg}
use Rattle.isa.specs.Helper.{helper_of}
use Rattle.isa.specs.Opcode.{kind_of}
use Rattle.pricing.specs.Model.{Model}
use Rattle.pricing.specs.Helper.{calling, calling_most}
use Rattle.pricing.specs.Store.{storing, storing_most}

-- LDX is class 1, ST 2, STX 3, ALU64 7
abbrev pub class_price : ℕ → ℕ
class_price c = if c == 1 then 3 else if c == 2 || c == 3 then 4 else if c == 7 then 2 else 1

abbrev pub dividing : Operation → ℕ
dividing operation.Div = 6
dividing operation.Mod = 6
dividing operation.Add = 0
dividing operation.Sub = 0
dividing operation.Mul = 0
dividing operation.Or = 0
dividing operation.And = 0
dividing operation.Lsh = 0
dividing operation.Rsh = 0
dividing operation.Neg = 0
dividing operation.Xor = 0
dividing operation.Mov = 0
dividing operation.Arsh = 0

abbrev pub added : Option Kind → ℤ → ℕ → ℕ → ℕ
added None imm a b = 0
added (Some (Arithmetic w o s)) imm a b = dividing o
added (Some Call) imm a b = calling (helper_of imm) a
added (Some (StoreImm z)) imm a b = storing z b
added (Some (StoreReg z)) imm a b = storing z b
added (Some (Branch w t s)) imm a b = 0
added (Some Jump) imm a b = 0
added (Some Exit) imm a b = 0
added (Some (Load z)) imm a b = 0

abbrev pub added_most : Option Kind → ℤ → ℕ
added_most None imm = 0
added_most (Some (Arithmetic w o s)) imm = dividing o
added_most (Some Call) imm = calling_most (helper_of imm)
added_most (Some (StoreImm z)) imm = storing_most z
added_most (Some (StoreReg z)) imm = storing_most z
added_most (Some (Branch w t s)) imm = 0
added_most (Some Jump) imm = 0
added_most (Some Exit) imm = 0
added_most (Some (Load z)) imm = 0

abbrev pub saving : ℕ → ℕ
saving p = 20 + 2 * min p 64

abbrev pub operand : Model
operand =
    record {
      most = λ o imm. class_price (o % 8) + added_most (kind_of o) imm;
      spending = λ o imm a b. class_price (o % 8) + added (kind_of o) imm a b;
      dearest = 148;
      saving = saving;
    }
