-- An instruction as text, in the form that llvm-objdump and bpftool write. Assumes nothing.
--     dst_of x w        the register dst, at a width
--     written_by x z, read_by x z     the place that a store writes, and the one that a load reads
--     second_of x s w   the second operand
--     text_of x         the whole instruction
use Rattle.std.specs.Prelude.{ℕ, if◌then◌else◌, List, ◌++◌, codes, decimal}
use Rattle.std.specs.Fmt.{signed_decimal}
use Rattle.isa.specs.declared.kind.Width.{Width}
use Rattle.isa.specs.declared.kind.Width.TheVariants.{Full64}
use Rattle.isa.specs.declared.kind.Source.{Source}
use Rattle.isa.specs.declared.kind.Size.{Size}
use Rattle.isa.specs.declared.kind.Operation.{Operation}
use Rattle.isa.specs.declared.kind.Kind.{Kind}
use Rattle.isa.specs.declared.kind.Kind.TheVariants.{Arithmetic, Branch, Jump, Call, Exit, Load, StoreImm, StoreReg}
use Rattle.isa.specs.declared.instruction.Instruction.{Instruction}
use Rattle.isa.specs.Rule.{is_neg}
use Rattle.listing.specs.declared.operand.Register.{Register}
use Rattle.listing.specs.declared.operand.Second.{Second}
use Rattle.listing.specs.declared.operand.Place.{Place}
use Rattle.listing.specs.Symbol.{assignment_of, comparison_of}
use Rattle.listing.specs.Operand.{register_text, second_text, place_text, close}

abbrev pub dst_of : Instruction → Width → Register
dst_of x w = record { number = x.fields.dst; width = w }

abbrev pub written_by : Instruction → Size → Place
written_by x z = record { size = z; base = x.fields.dst; offset = x.fields.offset }

abbrev pub read_by : Instruction → Size → Place
read_by x z = record { size = z; base = x.fields.src; offset = x.fields.offset }

abbrev pub second_of : Instruction → Source → Width → Second
second_of x s w = record { source = s; width = w; fields = x.fields }

-- NEG has one operand, which it writes back
abbrev pub arithmetic_text : Instruction → Width → Operation → Source → List ℕ
arithmetic_text x w o s =
    if is_neg o
    then register_text (dst_of x w) ++ (codes " = -" ++ register_text (dst_of x w))
    else register_text (dst_of x w) ++ (codes " " ++ (assignment_of o ++ (codes " " ++ second_text (second_of x s w))))

abbrev pub text_by : Kind → Instruction → List ℕ
text_by (Arithmetic w o s) x = arithmetic_text x w o s
text_by (Branch w t s) x =
    codes "if " ++ (register_text (dst_of x w) ++ (codes " " ++ (comparison_of t ++ (codes " " ++ (second_text (second_of x s w)
    ++ (codes " goto " ++ close x.fields.offset))))))
text_by Jump x = codes "goto " ++ close x.fields.offset
text_by Call x = codes "call " ++ signed_decimal x.fields.imm
text_by Exit x = codes "exit"
text_by (Load z) x = register_text (dst_of x Full64) ++ (codes " = " ++ place_text (read_by x z))
text_by (StoreImm z) x = place_text (written_by x z) ++ (codes " = " ++ signed_decimal x.fields.imm)
text_by (StoreReg z) x = place_text (written_by x z) ++ (codes " = r" ++ decimal x.fields.src)

abbrev pub text_of : Instruction → List ℕ
text_of x = text_by x.kind x
