-- The widths that arithmetic and comparisons work at. Assumes nothing.
--     width_of w     32 or 64 bits, for the width that an instruction names
--     low_at w n     the low bits of a number, as many as the width has
use Rattle.std.specs.Prelude.{ℕ, ◌%◌, ◌^◌}
use Rattle.std.specs.Int.{Width, w32, w64}
use mir.Val.{bits}
use Rattle.isa.specs.declared.kind.Width.{Width as Named}
use Rattle.isa.specs.declared.kind.Width.TheVariants.{Low32, Full64}

abbrev pub width_of : Named → Width
width_of Low32 = w32
width_of Full64 = w64

abbrev pub low_at : Width → ℕ → ℕ
low_at w n = n % 2 ^ bits w
