use Rattle.std.proofs.Common.{◌≡◌}
use Rattle.placer.specs.SlotBytes.{with_marked}
use Rattle.placer.proofs.slot_bytes.write_marked.Given as goal

abbrev pub invariant-loop-at : goal.invariant-loop-at
invariant-loop-at l = l.image ≡ with_marked l.marks l.bytes l.at l.initial.image
