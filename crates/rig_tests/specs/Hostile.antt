-- A hostile supply. Assumes nothing.
--     four_of s     the four numbers that it means
use Rattle.supply.specs.Supply.{Four}
use Rattle.rig_tests.specs.declared.hostile.Hostile.{Hostile}

abbrev pub four_of : Hostile → Four
four_of s = record { budget = s.budget; assured = s.assured; asked = s.asked; charges = s.charges }
