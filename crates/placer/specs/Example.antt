-- A round whose placements are known. Assumes nothing.
--     placing_at budget        the answer about the six slots by the prices of the operand model, with room for the worths
--     left_at budget           the image that is left
--     PlacementsKnown          what placing saves in the six slots does
use Rattle.std.specs.Prelude.{◌≡◌, ℕ, List, Ok, Err, Result}
use Rattle.isa.specs.declared.refusal.Unplaceable.TheVariants as unplaceable
use Rattle.isa.specs.declared.refusal.Refusal.{Refusal}
use Rattle.isa.specs.declared.refusal.Refusal.TheVariants.{NoPlacement}
use Rattle.pricing.specs.Operand.{operand}
use Rattle.certifier.specs.Example.{six_slots}
use Rattle.placer.specs.SlotBytes.{with_bytes, save_bytes}
use Rattle.placer.specs.Place.{placing, placed_image}

abbrev pub placing_at : ℕ → Result (Unit {0}) Refusal
placing_at budget = placing operand six_slots budget 1024

abbrev pub left_at : ℕ → List ℕ
left_at budget = placed_image operand six_slots budget 1024

pub record PlacementsKnown : Type 0 where
  -- the idle slot 3 becomes a save,
  pub needed : placing_at 243 ≡ Ok tt
  pub saved : left_at 243 ≡ with_bytes six_slots 3 save_bytes
  -- none does,
  pub needless : placing_at 258 ≡ Ok tt
  pub same : left_at 258 ≡ six_slots
  -- and the save does not suffice
  pub hopeless : placing_at 242 ≡ Err (NoPlacement (unplaceable.OverBudget 0 243))
  pub kept : left_at 242 ≡ six_slots
