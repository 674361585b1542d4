-- The mains as a supply: it always says yes, and every draw of 32 bits is assured. Assumes nothing.
--     fresh           the mains as made
--     drawn m n       the mains after a draw of n units
--     filled m        the mains after a recharge
--     four_of m       the four numbers that it means
use Rattle.std.specs.Prelude.{ℕ, ◌+◌, ◌%◌, ◌^◌}
use Rattle.supply.specs.declared.mains.Mains.{Mains}
use Rattle.supply.specs.Supply.{Four}

abbrev pub fresh : Mains
fresh = record { asked = 0; charges = 0 }

abbrev pub drawn : Mains → ℕ → Mains
drawn m n = record { asked = (m.asked + n) % 2 ^ 64; charges = m.charges }

abbrev pub filled : Mains → Mains
filled m = record { asked = m.asked; charges = (m.charges + 1) % 2 ^ 64 }

abbrev pub four_of : Mains → Four
four_of m = record { budget = 100000000; assured = 4294967295; asked = m.asked; charges = m.charges }
