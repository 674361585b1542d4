-- What a store adds to its price: a unit for each one among the bits it writes. Assumes nothing.
--     storing z b         what storing b adds
--     storing_most z      the most that it adds
use Rattle.std.specs.Prelude.{ℕ, ◌*◌, count_ones}
use Rattle.isa.specs.declared.kind.Size.{Size}
use Rattle.isa.specs.Size.{bytes_in, cut_to}

abbrev pub storing : Size → ℕ → ℕ
storing z b = count_ones (cut_to z b)

abbrev pub storing_most : Size → ℕ
storing_most z = 8 * bytes_in z
