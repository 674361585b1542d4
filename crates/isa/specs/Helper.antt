-- The helpers that a round can call. Assumes nothing.
--     helper_of imm     the helper under a number: 1 save, 2 next reading, 3 record
--     holds z n         a signed field holds the number n
use Rattle.std.specs.Prelude.{ℕ, Bool, false, if◌then◌else◌, ℤ, pos, negsuc, Some, None, Option, ◌==◌}
use Rattle.isa.specs.declared.helper.Helper.{Helper}
use Rattle.isa.specs.declared.helper.Helper.TheVariants.{Save, NextReading, Record}

abbrev pub holds : ℤ → ℕ → Bool
holds (pos n) k = n == k
holds (negsuc n) k = false

abbrev pub helper_of : ℤ → Option Helper
helper_of imm =
    if holds imm 1 then Some Save
    else if holds imm 2 then Some NextReading
    else if holds imm 3 then Some Record
    else None
