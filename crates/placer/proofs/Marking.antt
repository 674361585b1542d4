-- Marked slots written one after another, upward: idle slots turned into saves, and made idle again.
use Rattle.std.proofs.Common.{◌≡◌, ℕ, zero, suc, ◌<◌, ◌≤◌, Bool, true, false, cond, ◌&&◌, ltb, leb, List, get_or, sym, refl, ap, ◌∙◌, arith}
use Rattle.std.proofs.lemmas.Bool.Decides.{nat_tests}
use Rattle.isa.specs.Slot.{slot_count}
use Rattle.placer.specs.SlotBytes.{with_bytes, with_marked, idle_bytes, save_bytes}
use Rattle.placer.specs.Turn.{idles_in, turns_in, turned_image}
use Rattle.placer.proofs.Idling.{idle_there}
use Rattle.placer.proofs.ImageTurning.{with_save, with_idle, with_mark, turned_same, turned_none}

-- of a set, the slots below i, and those from i on
abbrev below : (ℕ → Bool) → ℕ → ℕ → Bool
below P i k = ltb k i && P k

abbrev from : (ℕ → Bool) → ℕ → ℕ → Bool
from P i k = leb i k && P k

below_more : (P : ℕ → Bool) (i k : ℕ) → (k ≡ i → ⊥) → below P i k ≡ below P (suc i) k
below_more P i k ne = grind (arith, nat_tests)

from_more : (P : ℕ → Bool) (i k : ℕ) → (k ≡ i → ⊥) → from P i k ≡ from P (suc i) k
from_more P i k ne = grind (arith, nat_tests)

module _ (image : List ℕ) (P : ℕ → Bool) (within : (n : ℕ) → P n ≡ true → idles_in image n ≡ true)
    (marks : List Bool) (marked : (n : ℕ) → n < slot_count image → get_or marks n false ≡ P n) where
  -- as marked slots are written upward, the slots of S i are turned once the first i are written
  module _ (bytes : List ℕ) (S : ℕ → ℕ → Bool) (others : (i k : ℕ) → (k ≡ i → ⊥) → S i k ≡ S (suc i) k)
      (still : (i : ℕ) → P i ≡ false → S i i ≡ S (suc i) i)
      (written : (i : ℕ) → i < slot_count image → P i ≡ true → with_bytes (turned_image (S i) image) i bytes ≡ turned_image (S (suc i)) image) where
    upward : (n : ℕ) → n ≤ slot_count image → with_marked marks bytes n (turned_image (S 0) image) ≡ turned_image (S n) image
    upward zero h = refl
    upward (suc i) h =
        let e = marked i (omega arith) in
        ap (λ (xs : List ℕ). cond (get_or marks i false) (with_bytes xs i bytes) xs) (upward i (omega arith))
        ∙ with_mark (S i) (S (suc i)) image bytes i (λ k ne. ap (λ (b : Bool). idles_in image k && b) (others i k ne)) (get_or marks i false)
        (λ t. written i (omega arith) (sym e ∙ t))
        (λ f. ap (λ (b : Bool). idles_in image i && b) (still i (sym e ∙ f)))

  all_below : (k : ℕ) → turns_in (below P (slot_count image)) image k ≡ turns_in P image k
  all_below k = grind (arith, nat_tests, idle_there)

  all_from : (k : ℕ) → turns_in P image k ≡ turns_in (from P 0) image k
  all_from k = grind arith

  none_from : (k : ℕ) → turns_in (from P (slot_count image)) image k ≡ false
  none_from k = grind (arith, nat_tests, idle_there)

  pub turned_upward : with_marked marks save_bytes (slot_count image) image ≡ turned_image P image
  turned_upward =
      ap (with_marked marks save_bytes (slot_count image)) (sym (turned_none (below P 0) image (λ k. grind (arith, nat_tests))))
      ∙ upward save_bytes (below P) (below_more P) (λ i f. grind (arith, nat_tests))
      (λ i h t.
      let idle = within i t in
      with_save (below P i) (below P (suc i)) image i (omega arith) (λ k ne. ap (λ (b : Bool). idles_in image k && b) (below_more P i k ne))
      (grind (arith, nat_tests)))
      (slot_count image) (omega arith)
      ∙ turned_same (below P (slot_count image)) P image all_below

  pub undone_all : with_marked marks idle_bytes (slot_count image) (turned_image P image) ≡ image
  undone_all =
      ap (with_marked marks idle_bytes (slot_count image)) (turned_same P (from P 0) image all_from)
      ∙ upward idle_bytes (from P) (from_more P) (λ i f. grind (arith, nat_tests))
      (λ i h t.
      with_idle (from P i) (from P (suc i)) image i (omega arith) (λ k ne. ap (λ (b : Bool). idles_in image k && b) (from_more P i k ne)) (within i t)
      (grind (arith, nat_tests)))
      (slot_count image) (omega arith)
      ∙ turned_none (from P (slot_count image)) image none_from
