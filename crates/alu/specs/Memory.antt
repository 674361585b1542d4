-- Memory: 512 bytes, the lowest byte of a number first. Assumes nothing.
--     inside a z           an access at address a stays in memory
--     loaded m a z         the number at address a, or none where the access leaves memory
--     stored m a z v       memory with the low bytes of v written at address a, or as it was where the access leaves it
use Rattle.std.specs.Prelude.{ℕ, zero, suc, ◌+◌, ◌*◌, ◌/◌, ◌%◌, ◌^◌, Bool, if◌then◌else◌, List, Some, None, Option, nat_le, slice_index, slice_set}
use Rattle.isa.specs.declared.kind.Size.{Size}
use Rattle.isa.specs.Size.{bytes_in}

abbrev pub inside : ℕ → Size → Bool
inside a z = nat_le (a + bytes_in z) 512

-- n bytes from byte k after address a on, each times 256 to its number
abbrev pub value_from : List ℕ → ℕ → ℕ → ℕ → ℕ
value_from m a k zero = 0
value_from m a k (suc n) = slice_index m (a + k) * 256 ^ k + value_from m a (k + 1) n

-- n bytes from byte k after address a on replaced by those of v
abbrev pub replaced_from : List ℕ → ℕ → ℕ → ℕ → ℕ → List ℕ
replaced_from m a v k zero = m
replaced_from m a v k (suc n) = replaced_from (slice_set m (a + k) (v / 256 ^ k % 256)) a v (k + 1) n

abbrev pub loaded : List ℕ → ℕ → Size → Option ℕ
loaded m a z = if inside a z then Some (value_from m a 0 (bytes_in z)) else None

abbrev pub stored : List ℕ → ℕ → Size → ℕ → List ℕ
stored m a z v = if inside a z then replaced_from m a v 0 (bytes_in z) else m
