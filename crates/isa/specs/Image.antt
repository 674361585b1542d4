-- An image: the slots of a round, one after another. Assumes nothing.
--     well_sized image         1 to 1,024 slots of eight bytes, and no byte beside
--     instruction_at image i   the legal instruction at slot i, or none: the image is not well sized, the slot is absent, or it breaks a rule
use Rattle.std.specs.Prelude.{ℕ, ◌%◌, Bool, if◌then◌else◌, ◌&&◌, List, length, Some, None, Option, ◌==◌, nat_le}
use Rattle.std.specs.Result.{result_ok}
use Rattle.isa.specs.declared.slot.Slot.{Slot}
use Rattle.isa.specs.declared.instruction.Instruction.{Instruction}
use Rattle.isa.specs.Slot.{slot_at}
use Rattle.isa.specs.Rule.{decoded}

abbrev pub well_sized : List ℕ → Bool
well_sized image = nat_le 1 (length image) && nat_le (length image) 8192 && length image % 8 == 0

abbrev pub legal_in : Option Slot → ℕ → Option Instruction
legal_in None i = None
legal_in (Some s) i = result_ok (decoded s i)

abbrev pub instruction_at : List ℕ → ℕ → Option Instruction
instruction_at image i = if well_sized image then legal_in (slot_at image i) i else None
