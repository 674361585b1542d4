-- The bytes of an image with idle slots turned into saves, and what its slots are.
use Rattle.std.proofs.lemmas.Bool.Decides.{nat_tests}
use Rattle.std.proofs.lemmas.Grind.{common_steps}
use Rattle.std.proofs.Common.{◌≡◌, ℕ, ◌+◌, ◌-◌, ◌*◌, ◌/◌, ◌%◌, ◌<◌, ◌≤◌, Bool, true, false, cond, ◌&&◌, eqb, ltb, leb, List, [], ◌∷◌, length, get_or, Some, None, Option, sym, refl, ap, ◌∙◌, subst, ⊎_elim, arith, w16, w32, to_z}
use mathlib.Core.Path.{subst⁻¹}
use Rattle.std.proofs.lemmas.List.FromFn.{length-map-range_with_len, get_or-map-range_with_len}
use Rattle.std.proofs.lemmas.List.{ext_get_or}
use Rattle.std.proofs.lemmas.Bool.{and_parts, cases_eq, lt-ltb, cond-true, cond-false}
use Rattle.isa.specs.declared.slot.Slot.{Slot}
use Rattle.isa.specs.declared.instruction.Instruction.{Instruction}
use Rattle.isa.specs.declared.instruction.Role.TheVariants.{Save}
use Rattle.isa.specs.Slot.{slot_count, little, byte_of}
use Rattle.isa.specs.Opcode.{kind_of, class_of, code_of, source_of, under, operations, tests, sizes, negation, arithmetic, branch, access, classes, singles, joined}
use Rattle.isa.specs.Instruction.{role_of}
use Rattle.isa.specs.Image.{well_sized, legal_in, instruction_at}
use Rattle.walks.specs.TurnedImage.{TurnedImage}
use Rattle.placer.specs.SlotBytes.{bytes_at, with_bytes, idle_bytes, save_bytes}
use Rattle.placer.specs.Turn.{idles_in, turns_in, turned_byte, turned_image}
use Rattle.placer.proofs.Writing.{byte_of_lem, with_is}
use Rattle.placer.proofs.Idling.{idle_bytes_lem, idle_there}

bytes_same : (a b : List ℕ) (i j : ℕ) → ((k : ℕ) → k < 8 → byte_of a i k ≡ byte_of b j k) → bytes_at a i ≡ bytes_at b j
bytes_same a b i j h1 = grind arith

module _ (P : ℕ → Bool) (image : List ℕ) where
  pub length_turned : length (turned_image P image) ≡ length image
  unfolding turned_image
  length_turned = length-map-range_with_len (turned_byte P image) 0 (length image)

  pub byte_turned : (j : ℕ) → j < length image → get_or (turned_image P image) j 0 ≡ turned_byte P image j
  unfolding turned_image
  byte_turned j h = get_or-map-range_with_len (turned_byte P image) 0 (length image) j j 0 h (omega arith)

  byte_in_lem : (i k : ℕ) → k < 8 → turned_byte P image (8 * i + k) ≡ cond (turns_in P image i) (get_or save_bytes k 0) (byte_of image i k)
  byte_in_lem i k h1 = grind arith

  module _ (i : ℕ) (inside : 8 * i + 8 ≤ length image) where
    bytes_by : (k : ℕ) → k < 8 → byte_of (turned_image P image) i k ≡ cond (turns_in P image i) (get_or save_bytes k 0) (byte_of image i k)
    bytes_by k h = byte_turned (8 * i + k) (omega arith) ∙ byte_in_lem i k h

    bytes_saved : turns_in P image i ≡ true → bytes_at (turned_image P image) i ≡ save_bytes
    bytes_saved e =
        bytes_same (turned_image P image) save_bytes i 0
        (λ k h. let z : 8 * 0 + k ≡ k = omega arith in bytes_by k h ∙ cond-true _ _ _ e ∙ ap (λ (n : ℕ). get_or save_bytes n 0) (sym z))

    bytes_kept : turns_in P image i ≡ false → bytes_at (turned_image P image) i ≡ bytes_at image i
    bytes_kept e = bytes_same (turned_image P image) image i i (λ k h. bytes_by k h ∙ cond-false _ _ _ e)

-- an instruction by whether its image is well sized and has the slot, and by the slot's bytes
abbrev fields_by : List ℕ → Slot
fields_by bytes =
    record {
      opcode = get_or bytes 0 0;
      dst = get_or bytes 1 0 % 16;
      src = get_or bytes 1 0 / 16;
      offset = to_z w16 (little (get_or bytes 2 0 ∷ get_or bytes 3 0 ∷ []));
      imm = to_z w32 (little (get_or bytes 4 0 ∷ get_or bytes 5 0 ∷ get_or bytes 6 0 ∷ get_or bytes 7 0 ∷ []));
    }

abbrev instruction_by : Bool → Bool → List ℕ → ℕ → Option Instruction
instruction_by sized within bytes i = cond sized (legal_in (cond within (Some (fields_by bytes)) None) i) None

absent : (sized : Bool) (bytes : List ℕ) (i : ℕ) → instruction_by sized false bytes i ≡ None
absent sized bytes i = grind arith

saved : (i : ℕ) → (x : Instruction) × (instruction_by true true save_bytes i ≡ Some x) × (role_of x ≡ Save)
unfolding kind_of class_of code_of source_of under operations tests sizes negation arithmetic branch access classes singles joined
saved i = (_, refl, refl)

abbrev sized_by : ℕ → Bool
sized_by n = leb 1 n && leb n 8192 && eqb (n % 8) 0

-- with as many bytes, and the same at slot i
by_length : (a b : List ℕ) (i : ℕ) → length a ≡ length b → (i < slot_count b → bytes_at a i ≡ bytes_at b i) → instruction_at a i ≡ instruction_at b i
by_length a b i h1 h2 = grind (arith, nat_tests, common_steps)

pub turned_image_lem : (P : ℕ → Bool) (image : List ℕ) → TurnedImage P image (turned_image P image)
turned_image_lem P image =
    let after = turned_image P image in
    let same = length_turned P image in
    record {
      sized = same;
      turns = λ i e.
          let t = idle_there image i (and_parts (idles_in image i) (P i) e).0 in
          let bytes = bytes_saved P image i (let h = t.1 in omega arith) e in
          let sized : well_sized after ≡ true = subst (λ (n : ℕ). sized_by n ≡ true) (sym same) t.0 in
          let there : ltb i (slot_count after) ≡ true = lt-ltb i (slot_count after) (subst (λ (n : ℕ). i < n / 8) (sym same) t.1) in
          let x = saved i in
          let u : instruction_by (well_sized after) (ltb i (slot_count after)) (bytes_at after i) i ≡ instruction_by true true save_bytes i = cc in
          (x.0, u ∙ x.1, x.2);
      keeps = λ i e. by_length after image i same (λ h. bytes_kept P image i (omega arith) e);
    }

module _ (P Q : ℕ → Bool) (image : List ℕ) where
  -- a slot written into a turned image
  module _ (i : ℕ) (inside : 8 * i + 8 ≤ length image) (others : (k : ℕ) → (k ≡ i → ⊥) → turns_in P image k ≡ turns_in Q image k) where
    with_turned : (bytes : List ℕ) → length bytes ≡ 8 → ((k : ℕ) → k < 8 → turned_byte Q image (8 * i + k) ≡ get_or bytes k 0)
        → with_bytes (turned_image P image) i bytes ≡ turned_image Q image
    with_turned bytes eight here =
        let n = length_turned P image in
        let o = length_turned Q image in
        with_is (turned_image P image) i bytes (omega arith) eight (turned_image Q image) (o ∙ sym n)
        (λ j l side.
        let ne : j / 8 ≡ i → ⊥ = λ e. ⊎_elim (λ (h : j < 8 * i). omega arith) (λ (h : 8 * i + 8 ≤ j). omega arith) side in
        byte_turned Q image j (omega arith)
        ∙ sym (byte_turned P image j (omega arith) ∙ ap (λ (b : Bool). cond b (get_or save_bytes (j % 8) 0) (get_or image j 0)) (others (j / 8) ne)))
        (λ j l h.
        let at : j ≡ 8 * i + (j - 8 * i) = omega arith in
        byte_turned Q image j (omega arith) ∙ ap (turned_byte Q image) at ∙ here (j - 8 * i) (omega arith))

    pub with_save : turns_in Q image i ≡ true → with_bytes (turned_image P image) i save_bytes ≡ turned_image Q image
    with_save e = with_turned save_bytes refl (λ k h. byte_in_lem Q image i k h ∙ cond-true _ _ _ e)

    pub with_idle : idles_in image i ≡ true → turns_in Q image i ≡ false → with_bytes (turned_image P image) i idle_bytes ≡ turned_image Q image
    with_idle idle e =
        with_turned idle_bytes refl
        (λ k h. byte_in_lem Q image i k h ∙ cond-false _ _ _ e ∙ sym (byte_of_lem image i k h) ∙ ap (λ (bytes : List ℕ). get_or bytes k 0) (idle_bytes_lem image i idle))

  pub turned_same : ((k : ℕ) → turns_in P image k ≡ turns_in Q image k) → turned_image P image ≡ turned_image Q image
  turned_same same =
      let n = length_turned P image in
      let o = length_turned Q image in
      ext_get_or 0 (turned_image P image) (turned_image Q image) (n ∙ sym o)
      (λ j h.
      byte_turned P image j (omega arith) ∙ ap (λ (b : Bool). cond b (get_or save_bytes (j % 8) 0) (get_or image j 0)) (same (j / 8))
      ∙ sym (byte_turned Q image j (omega arith)))

  -- bytes written into slot i, where it is marked
  pub with_mark : (bytes : List ℕ) (i : ℕ) → ((k : ℕ) → (k ≡ i → ⊥) → turns_in P image k ≡ turns_in Q image k) → (marked : Bool)
      → (marked ≡ true → with_bytes (turned_image P image) i bytes ≡ turned_image Q image)
      → (marked ≡ false → turns_in P image i ≡ turns_in Q image i)
      → cond marked (with_bytes (turned_image P image) i bytes) (turned_image P image) ≡ turned_image Q image
  with_mark bytes i others true written still = written refl
  with_mark bytes i others false written still =
      turned_same
      (λ k.
      ⊎_elim (λ (same : k ≡ i). subst⁻¹ (λ (n : ℕ). turns_in P image n ≡ turns_in Q image n) same (still refl)) (others k)
      (cases_eq k i))

module _ (P : ℕ → Bool) (image : List ℕ) where
  pub turned_none : ((k : ℕ) → turns_in P image k ≡ false) → turned_image P image ≡ image
  turned_none none =
      let n = length_turned P image in
      ext_get_or 0 (turned_image P image) image n (λ j h. byte_turned P image j (omega arith) ∙ cond-false _ _ _ (none (j / 8)))
