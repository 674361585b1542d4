-- What a helper adds to the price of its CALL. Assumes nothing.
--     calling h a           what helper h adds when r1 is a: the next reading by the two low bits of a, a record always the same
--     calling_most h        the most that it adds
use Rattle.std.specs.Prelude.{ℕ, ◌+◌, ◌*◌, ◌%◌, Some, None, Option}
use Rattle.isa.specs.declared.helper.Helper.{Helper}
use Rattle.isa.specs.declared.helper.Helper.TheVariants.{Save, NextReading, Record}

abbrev pub calling : Option Helper → ℕ → ℕ
calling None a = 0
calling (Some Save) a = 0
calling (Some NextReading) a = 60 + 10 * (a % 4)
calling (Some Record) a = 12

abbrev pub calling_most : Option Helper → ℕ
calling_most None = 0
calling_most (Some Save) = 0
calling_most (Some NextReading) = 90
calling_most (Some Record) = 12
