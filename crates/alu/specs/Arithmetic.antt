-- Arithmetic at a width. Assumes nothing.
--     result_at w o a b     the result of an operation on two numbers of w bits
--     applied w o a b       what it leaves in the register that held a: the result on the low bits, the bits above them cleared
use Rattle.std.specs.Prelude.{ℕ, ◌+◌, ◌-◌, ◌*◌, ◌/◌, ◌%◌, ◌^◌, if◌then◌else◌, ◌==◌, bit_and, bit_or, bit_xor}
use Rattle.std.specs.Int.Signed.{shr_z}
use Rattle.std.specs.Int.{Width}
use mir.Val.{to_z, of_z, bits}
use Rattle.isa.specs.declared.kind.Width.{Width as Named}
use Rattle.isa.specs.declared.kind.Operation.{Operation}
use Rattle.isa.specs.declared.kind.Operation.TheVariants.{Add, Sub, Mul, Div, Or, And, Lsh, Rsh, Neg, Mod, Xor, Mov, Arsh}
use Rattle.alu.specs.Width.{width_of, low_at}

-- DIV and MOD are unsigned, and have a result at 0; shift counts go round at the width; ARSH keeps the sign
abbrev pub result_at : Width → Operation → ℕ → ℕ → ℕ
result_at w Add a b = low_at w (a + b)
result_at w Sub a b = low_at w (a + (2 ^ bits w - b))
result_at w Mul a b = low_at w (a * b)
result_at w Div a b = if b == 0 then 0 else a / b
result_at w Or a b = bit_or a b
result_at w And a b = bit_and a b
result_at w Lsh a b = low_at w (a * 2 ^ (b % bits w))
result_at w Rsh a b = a / 2 ^ (b % bits w)
result_at w Neg a b = low_at w (2 ^ bits w - a)
result_at w Mod a b = if b == 0 then a else a % b
result_at w Xor a b = bit_xor a b
result_at w Mov a b = b
result_at w Arsh a b = of_z w (shr_z (to_z w a) (2 ^ (b % bits w)))

abbrev pub applied : Named → Operation → ℕ → ℕ → ℕ
applied w o a b = result_at (width_of w) o (low_at (width_of w) a) (low_at (width_of w) b)
