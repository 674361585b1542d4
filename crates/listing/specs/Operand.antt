-- The operands of an instruction as text. Assumes nothing.
--     register_text r     w0 to w10 for the low half of a register, r0 to r10 for the whole
--     second_text s       imm as a signed number, or the register src
--     place_text p        some bytes at a register and an offset
--     distance_text d     an offset with its sign
use Rattle.std.specs.Prelude.{ℕ, suc, List, ◌++◌, ℤ, pos, negsuc, codes, decimal}
use Rattle.std.specs.Fmt.{signed_decimal}
use Rattle.isa.specs.declared.kind.Width.{Width}
use Rattle.isa.specs.declared.kind.Width.TheVariants.{Low32, Full64}
use Rattle.isa.specs.declared.kind.Source.{Source}
use Rattle.isa.specs.declared.kind.Source.TheVariants.{Imm, Register as FromRegister}
use Rattle.listing.specs.declared.operand.Register.{Register}
use Rattle.listing.specs.declared.operand.Second.{Second}
use Rattle.listing.specs.declared.operand.Place.{Place}
use Rattle.listing.specs.declared.operand.Distance.{Distance}
use Rattle.listing.specs.Symbol.{size_name}

abbrev pub half : Width → List ℕ
half Low32 = codes "w"
half Full64 = codes "r"

abbrev pub register_text : Register → List ℕ
register_text r = half r.width ++ decimal r.number

abbrev pub second_by : Source → ℤ → Register → List ℕ
second_by Imm imm src = signed_decimal imm
second_by FromRegister imm src = register_text src

abbrev pub second_text : Second → List ℕ
second_text s = second_by s.source s.fields.imm (record { number = s.fields.src; width = s.width })

-- an offset with its sign, the sign apart from the number
abbrev pub apart : ℤ → List ℕ
apart (pos n) = codes "+ " ++ decimal n
apart (negsuc n) = codes "- " ++ decimal (suc n)

abbrev pub place_text : Place → List ℕ
place_text p = codes "*(" ++ (size_name p.size ++ (codes " *)(r" ++ (decimal p.base ++ (codes " " ++ (apart p.offset ++ codes ")")))))

abbrev pub close : ℤ → List ℕ
close (pos n) = codes "+" ++ decimal n
close (negsuc n) = codes "-" ++ decimal (suc n)

abbrev pub distance_text : Distance → List ℕ
distance_text d = close d.0
