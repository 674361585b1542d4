-- The checks before the walks: what passing them means, and by which numbers they refuse.
use Rattle.std.proofs.Common.{◌≡◌, ℕ, ◌≤◌, Bool, true, false, cond, ◌||◌, ◌⊎◌, inl, inr, eqb, leb, ◌↔◌, List, Some, None, Ok, Err, Option, Result, refl, ap, ◌∙◌, subst, arith}
use Rattle.std.specs.Result.{result_err}
use Rattle.std.proofs.lemmas.Bool.{and_parts, and_from, leb-true, le-leb}
use Rattle.isa.specs.declared.slot.Slot.{Slot}
use Rattle.isa.specs.declared.kind.Kind.{Kind}
use Rattle.isa.specs.declared.instruction.Instruction.{Instruction}
use Rattle.isa.specs.declared.refusal.Refusal.{Refusal}
use Rattle.isa.specs.declared.refusal.Refusal.TheVariants.{Budget, WorkingList}
use Rattle.isa.specs.First.{First}
use Rattle.isa.specs.Slot.{slot_at}
use Rattle.isa.specs.Opcode.{kind_of}
use Rattle.isa.specs.Rule.{fault_of, decoded_as}
use Rattle.isa.specs.Image.{instruction_at}
use Rattle.isa.specs.Refusal.{told_of, ok_unless}
use Rattle.isa.specs.Lawful.{fault_in, fault_at, leaving_in, leaving_at, lawfulness, Lawful, Breaks, length_bad, slot_bad, way_bad}
use Rattle.isa.proofs.Judging.{judging}
use Rattle.certifier.specs.Certify.{within_limits, limited, admission, InOrder}

-- a refusal by what the walks of an image do: 9 or 10
abbrev pub of_walks : Refusal → Bool
of_walks r = eqb (told_of r).number 9 || eqb (told_of r).number 10

abbrev Early : Option Refusal → Type 0
Early None = Unit {0}
Early (Some r) = (told_of r).number ≤ 7

fault_early : (k : Kind) (s : Slot) (i : ℕ) → Early (fault_of k s i)
fault_early k s i = grind arith

err_early : {A : Type 0} (o : Option Refusal) (a : A) → Early o → Early (result_err (ok_unless o a))
err_early o a e = grind arith

decoded_early : (k : Option Kind) (s : Slot) (i : ℕ) → Early (result_err (decoded_as k s i))
decoded_early None s i = omega arith
decoded_early (Some k) s i = err_early (fault_of k s i) _ (fault_early k s i)

slot_early : (o : Option Slot) (i : ℕ) → Early (fault_in o i)
slot_early None i = tt
slot_early (Some s) i = decoded_early (kind_of s.opcode) s i

leaving_early : (o : Option Instruction) (n : ℕ) → Early (leaving_in o n)
leaving_early o n = grind arith

first_early : (f : ℕ → Option Refusal) (n : ℕ) (r : Refusal) → ((i : ℕ) → Early (f i)) → First f n r → (told_of r).number ≤ 7
first_early f n r early first = subst Early first.given (early first.at)

breaks_early : (image : List ℕ) (r : Refusal) → Breaks image r → (told_of r).number ≤ 7
breaks_early image r (length_bad e) = omega arith
breaks_early image r (slot_bad e first) = first_early (fault_at image) _ r (λ i. slot_early (slot_at image i) i) first
breaks_early image r (way_bad e none first) = first_early (leaving_at image _) _ r (λ i. leaving_early (instruction_at image i) _) first

-- the numbers of the refusals before the walks
abbrev pub Numbered : Refusal → Type 0
Numbered r = ((told_of r).number ≤ 8) ⊎ ((told_of r).number ≡ 12)

module _ (image : List ℕ) (budget room : ℕ) where
  abbrev by : Bool → Bool → Result (Unit {0}) Refusal → Result (Unit {0}) Refusal
  by b c l = cond b (cond c l (Err WorkingList)) (Err Budget)

  pub admitted : (admission image budget room ≡ Ok tt) ↔ InOrder image budget room
  admitted = (go (within_limits budget) (leb 1024 room) refl refl, back)
    where
      go : (b c : Bool) → within_limits budget ≡ b → leb 1024 room ≡ c → by b c (lawfulness image) ≡ Ok tt → InOrder image budget room
      go false c p q e = cc
      go true false p q e = cc
      go true true p q e =
          let limits = and_parts (leb 1 budget) (leb budget 100000000) p in
          record { some = leb-true 1 budget limits.0; most = leb-true budget 100000000 limits.1; roomy = leb-true 1024 room q; lawful = (judging image).accepted e }

      back : InOrder image budget room → admission image budget room ≡ Ok tt
      back o =
          let limits = and_from (leb 1 budget) (leb budget 100000000) (le-leb 1 budget o.some) (le-leb budget 100000000 o.most) in
          ap (λ (b : Bool). by b (leb 1024 room) (lawfulness image)) limits
          ∙ ap (λ (c : Bool). by true c (lawfulness image)) (le-leb 1024 room o.roomy)
          ∙ (judging image).accepts o.lawful

  pub limits_refuse : (r : Refusal) → limited budget room ≡ Err r → admission image budget room ≡ Err r
  limits_refuse r e = grind arith

  pub limits_pass : limited budget room ≡ Ok tt → admission image budget room ≡ lawfulness image
  limits_pass e = grind arith

  pub in_order : limited budget room ≡ Ok tt → Lawful image → InOrder image budget room
  in_order e lawful = admitted.0 (limits_pass e ∙ (judging image).accepts lawful)

  pub early_number : (r : Refusal) → admission image budget room ≡ Err r → Numbered r
  early_number r = go (within_limits budget) (leb 1024 room)
    where
      go : (b c : Bool) → by b c (lawfulness image) ≡ Err r → Numbered r
      go false c e = let same : Budget ≡ r = cc in subst Numbered same (inl (omega arith))
      go true false e = let same : WorkingList ≡ r = cc in subst Numbered same (inr refl)
      go true true e = let h = breaks_early image r ((judging image).refused r e) in inl (omega arith)

  pub not_of_walks : (r : Refusal) → admission image budget room ≡ Err r → of_walks r ≡ false
  not_of_walks r e = let n = early_number r e in grind arith
