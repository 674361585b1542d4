-- The rules on one slot, in their order. Assumes nothing.
--     registers_exist s          r0 to r10 are the registers
--     must_be_zero k             the fields that a kind of instruction leaves unused
--     zeros_kept k s             those are zero
--     frame_pointer_kept k s     arithmetic and loads do not write r10
--     helper_known k s           CALL names a helper that there is
--     fault_of k s i             the first of these rules that slot i breaks
--     decoded s i                the instruction at slot i, or the first rule that it breaks, the opcode before all others
use Rattle.std.specs.Prelude.{ℕ, Bool, true, false, not, ◌&&◌, ◌||◌, is_some, Some, None, Err, Option, Result, ◌==◌, nat_le}
use Rattle.isa.specs.declared.kind.Operation.{Operation}
use Rattle.isa.specs.declared.kind.Operation.TheVariants as operation
use Rattle.isa.specs.declared.kind.Source.{Source}
use Rattle.isa.specs.declared.kind.Source.TheVariants.{Imm, Register}
use Rattle.isa.specs.declared.kind.Kind.{Kind}
use Rattle.isa.specs.declared.kind.Kind.TheVariants.{Arithmetic, Branch, Jump, Call, Exit, Load, StoreImm, StoreReg}
use Rattle.isa.specs.declared.slot.Slot.{Slot}
use Rattle.isa.specs.declared.rule.Unused.{Unused}
use Rattle.isa.specs.declared.instruction.Instruction.{Instruction}
use Rattle.isa.specs.declared.refusal.Refusal.{Refusal}
use Rattle.isa.specs.declared.refusal.Refusal.TheVariants.{IllegalOpcode, NoRegister, FieldNotZero, FramePointer, NoHelper}
use Rattle.isa.specs.Opcode.{kind_of}
use Rattle.isa.specs.Helper.{holds, helper_of}
use Rattle.isa.specs.Refusal.{ok_unless}

abbrev pub is_imm : Source → Bool
is_imm Imm = true
is_imm Register = false

abbrev pub is_neg : Operation → Bool
is_neg operation.Neg = true
is_neg operation.Add = false
is_neg operation.Sub = false
is_neg operation.Mul = false
is_neg operation.Div = false
is_neg operation.Or = false
is_neg operation.And = false
is_neg operation.Lsh = false
is_neg operation.Rsh = false
is_neg operation.Mod = false
is_neg operation.Xor = false
is_neg operation.Mov = false
is_neg operation.Arsh = false

abbrev pub registers_exist : Slot → Bool
registers_exist s = nat_le s.dst 10 && nat_le s.src 10

abbrev pub unused : Bool → Bool → Bool → Bool → Unused
unused dst src offset imm = record { dst = dst; src = src; offset = offset; imm = imm }

-- in this order: dst, src, offset, imm
abbrev pub must_be_zero : Kind → Unused
must_be_zero (Arithmetic w o s) = unused false (is_imm s) true (not (is_imm s) || is_neg o)
must_be_zero (Branch w t s) = unused false (is_imm s) false (not (is_imm s))
must_be_zero Jump = unused true true false true
must_be_zero Call = unused true true true false
must_be_zero Exit = unused true true true true
must_be_zero (Load z) = unused false false false true
must_be_zero (StoreImm z) = unused false true false false
must_be_zero (StoreReg z) = unused false false false true

abbrev pub zeros_in : Unused → Slot → Bool
zeros_in u s =
    (not u.dst || s.dst == 0) && (not u.src || s.src == 0)
    && (not u.offset || holds s.offset 0) && (not u.imm || holds s.imm 0)

abbrev pub zeros_kept : Kind → Slot → Bool
zeros_kept k s = zeros_in (must_be_zero k) s

abbrev pub writes_dst : Kind → Bool
writes_dst (Arithmetic w o s) = true
writes_dst (Load z) = true
writes_dst (Branch w t s) = false
writes_dst Jump = false
writes_dst Call = false
writes_dst Exit = false
writes_dst (StoreImm z) = false
writes_dst (StoreReg z) = false

abbrev pub frame_pointer_kept : Kind → Slot → Bool
frame_pointer_kept k s = not (writes_dst k) || not (s.dst == 10)

abbrev pub helper_known : Kind → Slot → Bool
helper_known Call s = is_some (helper_of s.imm)
helper_known (Arithmetic w o x) s = true
helper_known (Branch w t x) s = true
helper_known Jump s = true
helper_known Exit s = true
helper_known (Load z) s = true
helper_known (StoreImm z) s = true
helper_known (StoreReg z) s = true

-- a rule that holds leaves the later ones to be looked at
abbrev pub unless : Bool → Refusal → Option Refusal → Option Refusal
unless true r later = later
unless false r later = Some r

abbrev pub fault_of : Kind → Slot → ℕ → Option Refusal
fault_of k s i =
    unless (registers_exist s) (NoRegister i)
    (unless (zeros_kept k s) (FieldNotZero i)
    (unless (frame_pointer_kept k s) (FramePointer i)
    (unless (helper_known k s) (NoHelper i)
    None)))

abbrev pub decoded_as : Option Kind → Slot → ℕ → Result Instruction Refusal
decoded_as None s i = Err (IllegalOpcode i)
decoded_as (Some k) s i = ok_unless (fault_of k s i) (record { at = i; kind = k; fields = s })

abbrev pub decoded : Slot → ℕ → Result Instruction Refusal
decoded s i = decoded_as (kind_of s.opcode) s i
