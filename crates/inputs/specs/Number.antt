-- Numbers as people write them.
--
-- all_digits radix ds       whether each byte of ds is a digit in this radix
-- is_number radix limit ds  whether ds is one digit or more and the number that they write is below the limit
-- number radix limit word   the number that a word writes, which may begin with a plus, if there is one below the limit
use Rattle.std.specs.Prelude.{ℕ, Bool, ◌&&◌, nat_lt, List, length, Option, Some, None, if◌then◌else◌}
use Rattle.std.specs.Char.{digit_value}
use Rattle.std.specs.List.{list_all}
use Rattle.std.specs.Str.Parse.{digits_value, without_leading_plus}

abbrev pub all_digits : ℕ → List ℕ → Bool
all_digits radix ds = list_all (λ c. nat_lt (digit_value c) radix) ds

abbrev pub is_number : ℕ → ℕ → List ℕ → Bool
is_number radix limit ds = nat_lt 0 (length ds) && (all_digits radix ds && nat_lt (digits_value radix ds) limit)

abbrev pub number : ℕ → ℕ → List ℕ → Option ℕ
number radix limit word = let ds = without_leading_plus word in if is_number radix limit ds then Some (digits_value radix ds) else None
