-- The size of a load or a store. Assumes nothing.
--     bytes_in z       how many bytes it moves
--     cut_to z v       the low bytes of a value, as many as the size has
use Rattle.std.specs.Prelude.{ℕ, ◌*◌, ◌%◌, ◌^◌}
use Rattle.isa.specs.declared.kind.Size.{Size}
use Rattle.isa.specs.declared.kind.Size.TheVariants.{One, Two, Four, Eight}

abbrev pub bytes_in : Size → ℕ
bytes_in One = 1
bytes_in Two = 2
bytes_in Four = 4
bytes_in Eight = 8

abbrev pub cut_to : Size → ℕ → ℕ
cut_to z v = v % 2 ^ (8 * bytes_in z)
