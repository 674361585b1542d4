-- A slot of an image, as its eight bytes say it. Assumes nothing.
--     image                a list of bytes; its slots are the groups of eight from its beginning
--     slot_count image     how many slots an image has
--     little bs            the number that bytes say, the lowest first
--     fields_of bs         eight bytes taken apart: opcode, dst and src, signed offset, signed imm
--     slot_at image i      the fields of slot i, or none where there is no such slot
use Rattle.std.specs.Prelude.{ℕ, ◌+◌, ◌*◌, ◌/◌, ◌%◌, if◌then◌else◌, List, [], ◌∷◌, length, Some, None, Option, nat_lt, slice_index}
use Rattle.std.proofs.Common.{to_z}
use Rattle.std.specs.Int.{w16, w32}
use Rattle.isa.specs.declared.slot.Slot.{Slot}

abbrev pub slot_count : List ℕ → ℕ
slot_count image = length image / 8

abbrev pub little : List ℕ → ℕ
little [] = 0
little (b ∷ bs) = b + 256 * little bs

-- the byte k of slot i
abbrev pub byte_of : List ℕ → ℕ → ℕ → ℕ
byte_of image i k = slice_index image (8 * i + k)

abbrev pub fields_of : List ℕ → ℕ → Slot
fields_of image i =
    record {
      opcode = byte_of image i 0;
      dst = byte_of image i 1 % 16;
      src = byte_of image i 1 / 16;
      offset = to_z w16 (little (byte_of image i 2 ∷ byte_of image i 3 ∷ []));
      imm = to_z w32 (little (byte_of image i 4 ∷ byte_of image i 5 ∷ byte_of image i 6 ∷ byte_of image i 7 ∷ []));
    }

abbrev pub slot_at : List ℕ → ℕ → Option Slot
slot_at image i = if nat_lt i (slot_count image) then Some (fields_of image i) else None
