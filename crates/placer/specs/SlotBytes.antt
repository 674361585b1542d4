-- The eight bytes of a slot. Assumes nothing.
--     bytes_at image i            the bytes of slot i
--     with_bytes image i bytes    the image with these bytes at slot i
--     with_marked marks bytes k image     the image with these bytes at each marked slot below k
--     idle_bytes, save_bytes      the bytes of an idle slot, and of a save
use Rattle.std.specs.Prelude.{ℕ, zero, suc, ◌+◌, ◌*◌, Bool, false, List, [], ◌∷◌, ◌++◌, take, drop, slice_index_or, if◌then◌else◌}
use Rattle.isa.specs.Slot.{byte_of}

abbrev pub bytes_at : List ℕ → ℕ → List ℕ
bytes_at image i =
    byte_of image i 0 ∷ byte_of image i 1 ∷ byte_of image i 2 ∷ byte_of image i 3
    ∷ byte_of image i 4 ∷ byte_of image i 5 ∷ byte_of image i 6 ∷ byte_of image i 7 ∷ []

abbrev pub with_bytes : List ℕ → ℕ → List ℕ → List ℕ
with_bytes image i bytes = take (8 * i) image ++ (bytes ++ drop (8 * i + 8) image)

abbrev pub with_marked : List Bool → List ℕ → ℕ → List ℕ → List ℕ
with_marked marks bytes zero image = image
with_marked marks bytes (suc k) image =
    let before = with_marked marks bytes k image in if slice_index_or marks k false then with_bytes before k bytes else before

-- JA with offset 0
abbrev pub idle_bytes : List ℕ
idle_bytes = 0x05 ∷ 0 ∷ 0 ∷ 0 ∷ 0 ∷ 0 ∷ 0 ∷ 0 ∷ []

-- CALL of helper 1
abbrev pub save_bytes : List ℕ
save_bytes = 0x85 ∷ 0 ∷ 0 ∷ 0 ∷ 1 ∷ 0 ∷ 0 ∷ 0 ∷ []
