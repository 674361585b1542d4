-- The lawfulness of an image. Assumes nothing.
--     fault_at image i          the rule that slot i breaks by itself
--     leaving_at image n i      the refusal of slot i where a way out of it leaves an image of n slots
--     first_broken image        the first rule that an image breaks: its size, then the rules on one slot, then the ways out
--     lawfulness image          the answer: accepted, or refused by that rule
--     Lawful image              an image that keeps every rule
--     Breaks image r            r is the first rule that an image breaks, said without computing it
--     Judged image answer       what an answer means: accepted exactly when lawful, refused by the first rule broken
use Rattle.std.specs.Prelude.{◌≡◌, ℕ, ◌<◌, Bool, true, false, if◌then◌else◌, ◌&&◌, List, ℤ, pos, negsuc, Some, None, Ok, Err, Option, Result, nat_lt}
use Rattle.std.specs.Result.{result_err}
use Rattle.isa.specs.declared.slot.Slot.{Slot}
use Rattle.isa.specs.declared.instruction.Instruction.{Instruction}
use Rattle.isa.specs.declared.refusal.Refusal.{Refusal}
use Rattle.isa.specs.declared.refusal.Refusal.TheVariants.{Length, WayOut}
use Rattle.isa.specs.First.{or_else, first_below, First}
use Rattle.isa.specs.Slot.{slot_count, slot_at}
use Rattle.isa.specs.Instruction.{ways_out}
use Rattle.isa.specs.Rule.{decoded}
use Rattle.isa.specs.Image.{well_sized, instruction_at}
use Rattle.isa.specs.Refusal.{ok_unless}

abbrev pub fault_in : Option Slot → ℕ → Option Refusal
fault_in None i = None
fault_in (Some s) i = result_err (decoded s i)

abbrev pub fault_at : List ℕ → ℕ → Option Refusal
fault_at image i = fault_in (slot_at image i) i

abbrev pub stays_inside : Option ℤ → ℕ → Bool
stays_inside None n = true
stays_inside (Some (pos k)) n = nat_lt k n
stays_inside (Some (negsuc k)) n = false

abbrev pub leaving_by : Instruction → ℕ → Option Refusal
leaving_by x n = if stays_inside (ways_out x).0 n && stays_inside (ways_out x).1 n then None else Some (WayOut x.at)

abbrev pub leaving_in : Option Instruction → ℕ → Option Refusal
leaving_in None n = None
leaving_in (Some x) n = leaving_by x n

abbrev pub leaving_at : List ℕ → ℕ → ℕ → Option Refusal
leaving_at image n i = leaving_in (instruction_at image i) n

abbrev pub first_broken : List ℕ → Option Refusal
first_broken image =
    if well_sized image
    then or_else (first_below (fault_at image) (slot_count image)) (first_below (leaving_at image (slot_count image)) (slot_count image))
    else Some Length

abbrev pub lawfulness : List ℕ → Result (Unit {0}) Refusal
lawfulness image = ok_unless (first_broken image) tt

-- a way out, where there is one, leads to one of n slots
abbrev pub Inside : Option ℤ → ℕ → Type 0
Inside None n = Unit {0}
Inside (Some (pos k)) n = k < n
Inside (Some (negsuc k)) n = ⊥

pub record Lawful (image : List ℕ) : Type 0 where
  pub sized : well_sized image ≡ true
  pub legal : (i : ℕ) → i < slot_count image → (x : Instruction) × (instruction_at image i ≡ Some x)
  pub inside : (i : ℕ) (x : Instruction) → instruction_at image i ≡ Some x
      → Inside (ways_out x).0 (slot_count image) × Inside (ways_out x).1 (slot_count image)

pub data Breaks (image : List ℕ) : Refusal → Type 0 where
  length_bad : well_sized image ≡ false → Breaks image Length
  slot_bad : {r : Refusal} → well_sized image ≡ true → First (fault_at image) (slot_count image) r → Breaks image r
  way_bad : {r : Refusal} → well_sized image ≡ true → ((i : ℕ) → i < slot_count image → fault_at image i ≡ None)
      → First (leaving_at image (slot_count image)) (slot_count image) r → Breaks image r

pub record Judged (image : List ℕ) (answer : Result (Unit {0}) Refusal) : Type 0 where
  pub accepted : answer ≡ Ok tt → Lawful image
  pub accepts : Lawful image → answer ≡ Ok tt
  pub refused : (r : Refusal) → answer ≡ Err r → Breaks image r
