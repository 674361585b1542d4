-- What the answer on an image means.
use Rattle.std.proofs.Common.{◌≡◌, ℕ, ◌<◌, ◌≤◌, Bool, true, false, cond, List, ℤ, pos, negsuc, Some, None, Ok, Err, Option, Result, sym, refl, ap, ◌∙◌, subst, ⊎_elim}
use Rattle.std.specs.Result.{result_err, result_ok}
use Rattle.std.proofs.lemmas.Bool.{and_parts, and_from, ltb-true, lt-ltb, le-ltb, cond-true, cond-false, cases_Bool, cases_lt}
use Rattle.isa.specs.declared.slot.Slot.{Slot}
use Rattle.isa.specs.declared.instruction.Instruction.{Instruction}
use Rattle.isa.specs.declared.refusal.Refusal.{Refusal}
use Rattle.isa.specs.declared.refusal.Refusal.TheVariants.{Length}
use Rattle.isa.specs.First.{or_else, first_below}
use Rattle.isa.specs.Slot.{slot_count, slot_at, fields_of}
use Rattle.isa.specs.Instruction.{ways_out}
use Rattle.isa.specs.Rule.{decoded}
use Rattle.isa.specs.Image.{well_sized, instruction_at, legal_in}
use Rattle.isa.specs.Refusal.{ok_unless}
use Rattle.isa.specs.Lawful.{fault_in, fault_at, stays_inside, leaving_by, leaving_in, leaving_at, first_broken, lawfulness, Inside, Lawful, Breaks, length_bad, slot_bad, way_bad, Judged}
use Rattle.isa.proofs.First.{none_each, each_none, some_below, first_of, or_none, or_some}
use Rattle.isa.proofs.Refusing.{ok_from, err_from}

-- a way out that stays, as a test and as a fact
inside_from : (w : Option ℤ) (n : ℕ) → stays_inside w n ≡ true → Inside w n
inside_from None n e = tt
inside_from (Some (pos k)) n e = ltb-true k n e
inside_from (Some (negsuc k)) n e = cc

from_inside : (w : Option ℤ) (n : ℕ) → Inside w n → stays_inside w n ≡ true
from_inside None n h = refl
from_inside (Some (pos k)) n h = lt-ltb k n h
from_inside (Some (negsuc k)) n h = absurd h

cond_none : (b : Bool) (r : Refusal) → cond b None (Some r) ≡ None → b ≡ true
cond_none true r e = refl
cond_none false r e = cc

pub stays_both : (x : Instruction) (n : ℕ) → leaving_by x n ≡ None → Inside (ways_out x).0 n × Inside (ways_out x).1 n
stays_both x n e =
    let both = and_parts (stays_inside (ways_out x).0 n) (stays_inside (ways_out x).1 n) (cond_none _ _ e) in
    (inside_from (ways_out x).0 n both.0, inside_from (ways_out x).1 n both.1)

pub both_stay : (x : Instruction) (n : ℕ) → Inside (ways_out x).0 n × Inside (ways_out x).1 n → leaving_by x n ≡ None
both_stay x n h =
    cond-true _ _ _ (and_from (stays_inside (ways_out x).0 n) (stays_inside (ways_out x).1 n) (from_inside (ways_out x).0 n h.0) (from_inside (ways_out x).1 n h.1))

-- a slot without a fault has an instruction, and the other way round
legal_from : (r : Result Instruction Refusal) → result_err r ≡ None → (x : Instruction) × (result_ok r ≡ Some x)
legal_from (Ok x) e = (x, refl)
legal_from (Err r) e = cc

from_legal : (r : Result Instruction Refusal) (x : Instruction) → result_ok r ≡ Some x → result_err r ≡ None
from_legal (Ok y) x e = refl
from_legal (Err r) x e = cc

slot_faultless : (o : Option Slot) (i : ℕ) (x : Instruction) → legal_in o i ≡ Some x → fault_in o i ≡ None
slot_faultless None i x e = refl
slot_faultless (Some s) i x e = from_legal (decoded s i) x e

module _ (image : List ℕ) where
  pub faultless_at : (i : ℕ) (x : Instruction) → well_sized image ≡ true → instruction_at image i ≡ Some x → fault_at image i ≡ None
  faultless_at i x sized e = slot_faultless (slot_at image i) i x (sym (cond-true _ _ _ sized) ∙ e)

  slot_there : (i : ℕ) → i < slot_count image → slot_at image i ≡ Some (fields_of image i)
  slot_there i h = cond-true _ _ _ (lt-ltb i (slot_count image) h)

  fault_there : (i : ℕ) → i < slot_count image → fault_at image i ≡ result_err (decoded (fields_of image i) i)
  fault_there i h = ap (λ o. fault_in o i) (slot_there i h)

  -- the instruction at a slot of a well sized image
  pub instruction_there : (i : ℕ) → well_sized image ≡ true → i < slot_count image
      → instruction_at image i ≡ result_ok (decoded (fields_of image i) i)
  instruction_there i sized h = cond-true _ _ _ sized ∙ ap (λ o. legal_in o i) (slot_there i h)

  -- only a slot of a well sized image has an instruction
  pub slot_of : (i : ℕ) (x : Instruction) → well_sized image ≡ true → instruction_at image i ≡ Some x → i < slot_count image
  slot_of i x sized e =
      ⊎_elim (λ (h : i < slot_count image). h)
      (λ (h : slot_count image ≤ i).
      let absent : instruction_at image i ≡ None = cond-true _ _ _ sized ∙ ap (λ o. legal_in o i) (cond-false _ _ _ (le-ltb i (slot_count image) h)) in cc)
      (cases_lt i (slot_count image))

  Faultless : Type 0
  Faultless = (i : ℕ) → i < slot_count image → fault_at image i ≡ None

  Staying : Type 0
  Staying = (i : ℕ) → i < slot_count image → leaving_at image (slot_count image) i ≡ None

  keeps_all : well_sized image ≡ true → Faultless → Staying → Lawful image
  unfolding Faultless Staying
  keeps_all sized faultless staying = record {
    sized = sized;
    legal = λ i h.
        let p = legal_from (decoded (fields_of image i) i) (sym (fault_there i h) ∙ faultless i h) in
        (p.0, instruction_there i sized h ∙ p.1);
    inside = λ i x e.
        stays_both x (slot_count image) (sym (ap (λ o. leaving_in o (slot_count image)) e) ∙ staying i (slot_of i x sized e));
  }

  no_fault : Lawful image → Faultless
  unfolding Faultless
  no_fault k i h =
      let p = k.legal i h in
      fault_there i h ∙ from_legal (decoded (fields_of image i) i) p.0 (sym (instruction_there i k.sized h) ∙ p.1)

  no_leaving : Lawful image → Staying
  unfolding Staying
  no_leaving k i h =
      let p = k.legal i h in
      ap (λ o. leaving_in o (slot_count image)) p.1 ∙ both_stay p.0 (slot_count image) (k.inside i p.0 p.1)

  -- the three parts of the first broken rule, by whether the image is well sized
  broken_length : well_sized image ≡ false → first_broken image ≡ Some Length
  broken_length unsized = cond-false _ _ _ unsized

  broken_slot : well_sized image ≡ true
      → first_broken image ≡ or_else (first_below (fault_at image) (slot_count image)) (first_below (leaving_at image (slot_count image)) (slot_count image))
  broken_slot sized = cond-true _ _ _ sized

  accepted : first_broken image ≡ None → Lawful image
  unfolding Faultless Staying
  accepted none =
      ⊎_elim
      (λ (sized : well_sized image ≡ true).
      let both = or_none _ _ (sym (broken_slot sized) ∙ none) in
      keeps_all sized (none_each (fault_at image) (slot_count image) both.0)
      (none_each (leaving_at image (slot_count image)) (slot_count image) both.1))
      (λ (unsized : well_sized image ≡ false). let p = broken_length unsized in cc)
      (cases_Bool (well_sized image))

  accepts : Lawful image → first_broken image ≡ None
  unfolding Faultless Staying
  accepts k =
      broken_slot k.sized
      ∙ ap (λ o. or_else o (first_below (leaving_at image (slot_count image)) (slot_count image))) (each_none (fault_at image) (slot_count image) (no_fault k))
      ∙ each_none (leaving_at image (slot_count image)) (slot_count image) (no_leaving k)

  refused : (r : Refusal) → first_broken image ≡ Some r → Breaks image r
  refused r some =
      ⊎_elim
      (λ (sized : well_sized image ≡ true).
      ⊎_elim (λ fault. slot_bad sized (first_of (fault_at image) (slot_count image) r fault))
      (λ leaving. way_bad sized (none_each (fault_at image) (slot_count image) leaving.0)
      (first_of (leaving_at image (slot_count image)) (slot_count image) r leaving.1))
      (or_some (first_below (fault_at image) (slot_count image)) (first_below (leaving_at image (slot_count image)) (slot_count image)) r
      (sym (broken_slot sized) ∙ some)))
      (λ (unsized : well_sized image ≡ false).
      let e : Length ≡ r = let p = broken_length unsized in cc in subst (λ x. Breaks image x) e (length_bad unsized))
      (cases_Bool (well_sized image))

  pub judging : Judged image (lawfulness image)
  judging = record {
    accepted = λ e. accepted (ok_from (first_broken image) e);
    accepts = λ k. ap (λ o. ok_unless o tt) (accepts k);
    refused = λ r e. refused r (err_from (first_broken image) r e);
  }

  -- the refusal of a slot, as it is come upon
  pub slot_refused : (i : ℕ) (r : Refusal) → well_sized image ≡ true → i < slot_count image
      → first_below (fault_at image) i ≡ None → ok_unless (fault_at image i) (tt {0}) ≡ Err r → lawfulness image ≡ Err r
  slot_refused i r sized h before here =
      ap (λ o. ok_unless o tt)
      (broken_slot sized
      ∙ ap (λ o. or_else o (first_below (leaving_at image (slot_count image)) (slot_count image)))
      (some_below (fault_at image) (slot_count image) i r h before (err_from _ r here)))

  pub judged : (a : Result (Unit {0}) Refusal) → a ≡ lawfulness image → Judged image a
  judged a e = subst (λ x. Judged image x) (sym e) judging
