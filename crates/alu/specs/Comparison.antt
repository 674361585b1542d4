-- The tests of conditional jumps at a width. Assumes nothing.
--     holds_at w t a b     whether a test holds of two numbers of w bits
--     compared w t a b     whether it holds of the low bits of two registers
use Rattle.std.specs.Prelude.{ℕ, Bool, not, ◌==◌, bit_and, int_le, int_lt, nat_le, nat_lt}
use Rattle.std.specs.Int.{Width}
use Rattle.std.proofs.Common.{to_z}
use Rattle.isa.specs.declared.kind.Width.{Width as Named}
use Rattle.isa.specs.declared.kind.Test.{Test}
use Rattle.isa.specs.declared.kind.Test.TheVariants.{Eq, Gt, Ge, Set, Ne, Sgt, Sge, Lt, Le, Slt, Sle}
use Rattle.alu.specs.Width.{width_of, low_at}

-- the tests with an S compare by sign
abbrev pub holds_at : Width → Test → ℕ → ℕ → Bool
holds_at w Eq a b = a == b
holds_at w Gt a b = nat_lt b a
holds_at w Ge a b = nat_le b a
holds_at w Set a b = not (bit_and a b == 0)
holds_at w Ne a b = not (a == b)
holds_at w Sgt a b = int_lt (to_z w b) (to_z w a)
holds_at w Sge a b = int_le (to_z w b) (to_z w a)
holds_at w Lt a b = nat_lt a b
holds_at w Le a b = nat_le a b
holds_at w Slt a b = int_lt (to_z w a) (to_z w b)
holds_at w Sle a b = int_le (to_z w a) (to_z w b)

abbrev pub compared : Named → Test → ℕ → ℕ → Bool
compared w t a b = holds_at (width_of w) t (low_at (width_of w) a) (low_at (width_of w) b)
