-- An image with some of its idle slots turned into saves. Assumes nothing.
--     P                         a set of slots
--     idles_in image i          slot i is idle
--     turns_in P image i        slot i is idle, and one of P
--     turned_byte P image j     the byte at place j once the idle slots of P are saves
--     turned_image P image      the image with the idle slots of P turned into saves
use Rattle.std.specs.Prelude.{ℕ, ◌/◌, ◌%◌, Bool, ◌&&◌, List, map, length, slice_index, if◌then◌else◌}
use Rattle.std.specs.List.{range_with_len}
use Rattle.walks.specs.ImageGraph.{role_at}
use Rattle.walks.specs.Placing.{is_idle}
use Rattle.placer.specs.SlotBytes.{save_bytes}

abbrev pub idles_in : List ℕ → ℕ → Bool
idles_in image i = is_idle (role_at image i)

abbrev pub turns_in : (ℕ → Bool) → List ℕ → ℕ → Bool
turns_in P image i = idles_in image i && P i

abbrev pub turned_byte : (ℕ → Bool) → List ℕ → ℕ → ℕ
turned_byte P image j = if turns_in P image (j / 8) then slice_index save_bytes (j % 8) else slice_index image j

unfoldable pub turned_image : (ℕ → Bool) → List ℕ → List ℕ
turned_image P image = map (turned_byte P image) (range_with_len 0 (length image))
