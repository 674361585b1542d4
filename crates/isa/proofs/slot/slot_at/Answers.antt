use Rattle.std.proofs.Common.{rules, ◌≡◌, ℕ, ◌+◌, ◌*◌, ◌<◌, List, get_or, arith, ap, ◌∙◌}
use Rattle.std.specs.List.{slice_range}
use Rattle.std.proofs.lemmas.List.{get_or-take, get_or-drop}
use Rattle.isa.specs.Slot.{slot_count, byte_of}
use Rattle.isa.proofs.slot.slot_at.Goals as goal

-- a byte of the eight that were taken
byte_there : (image part : List ℕ) (i at k : ℕ) → part ≡ slice_range image (8 * at) (8 * at + 8) → at ≡ i → k < 8 → get_or part k 0 ≡ byte_of image i k
byte_there image part i at k e same h =
    ap (λ xs. get_or xs k 0) e ∙ get_or-take _ _ k 0 (omega arith) ∙ get_or-drop (8 * at) image k 0 ∙ ap (λ j. get_or image (8 * j + k) 0) same

pub returns : goal.returns
returns c =
    let byte = λ (k : ℕ) (h : k < 8). byte_there c.args.image.now c.in_ok-get.field-0.now c.args.slot c.from-at.result k c.in_ok-get.ensures.lookup.0.2 c.from-at.ensures h in
    let there : c.args.slot < slot_count c.args.image.now = omega (arith, c.in_ok-get.ensures.lookup.0.1) in
    rw (byte 0 (omega arith), byte 1 (omega arith), c.from_le_bytes.ensures, c.from_le_bytes-2.ensures, byte 2 (omega arith), byte 3 (omega arith), byte 4 (omega arith), byte 5 (omega arith), byte 6 (omega arith), byte 7 (omega arith)) (search rules)
