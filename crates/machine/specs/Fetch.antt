-- The instruction at the slot where a state stands. Assumes nothing.
--     fetched image z     the legal instruction at a slot, or none; a slot below 0 has none
use Rattle.std.specs.Prelude.{ℕ, List, ℤ, pos, negsuc, None, Option}
use Rattle.isa.specs.declared.instruction.Instruction.{Instruction}
use Rattle.isa.specs.Image.{instruction_at}

abbrev pub fetched : List ℕ → ℤ → Option Instruction
fetched image (pos n) = instruction_at image n
fetched image (negsuc n) = None
