-- The graph of a lawful image is sound.
use Rattle.std.proofs.Common.{◌≡◌, ℕ, suc, ◌+◌, ◌<◌, ◌≤◌, Bool, true, false, cond, ◌⊎◌, List, [], ◌∷◌, ◌++◌, ℤ, pos, negsuc, ◌+ℤ◌, Some, None, Option, sym, refl, ap, ◌∙◌, subst, inl, inr, ⊎_elim, arith}
use mathlib.Core.Path.{subst⁻¹}
use Rattle.isa.specs.declared.slot.Slot.{Slot}
use Rattle.isa.specs.declared.kind.Kind.{Kind}
use Rattle.isa.specs.declared.kind.Kind.TheVariants as kind
use Rattle.isa.specs.declared.instruction.Instruction.{Instruction}
use Rattle.isa.specs.declared.instruction.Role.{Role}
use Rattle.isa.specs.declared.instruction.Role.TheVariants.{Save, Idle, Exit, Other}
use Rattle.isa.specs.Slot.{slot_count, slot_at}
use Rattle.isa.specs.Instruction.{ways_by, ways_out, role_by, role_of}
use Rattle.isa.specs.Image.{well_sized, legal_in, instruction_at}
use Rattle.isa.specs.Lawful.{Inside, Lawful}
use Rattle.paths.specs.Net.{In}
use Rattle.pricing.specs.Model.{Model, Bounded}
use Rattle.walks.specs.Graph.{ending}
use Rattle.walks.specs.ImageGraph.{price_by, way_list, role_in, ways_in, role_at, ways_at, price_at, LawfulSound, LawfulSmall}
use Rattle.walks.specs.Placing.{LawfulPlaceable}

-- an instruction stands at the slot that it was decoded from
sized_at : (b : Bool) (o : Option Slot) (i : ℕ) (x : Instruction) → cond b (legal_in o i) None ≡ Some x → x.at ≡ i
sized_at b o i x e = grind arith

pub stands_at : (image : List ℕ) (i : ℕ) (x : Instruction) → instruction_at image i ≡ Some x → x.at ≡ i
stands_at image i x e = sized_at (well_sized image) (slot_at image i) i x e

in_append : (t : ℕ) (a b : List ℕ) → In t (a ++ b) → In t a ⊎ In t b
in_append t [] b h = inr h
in_append t (x ∷ a) b (inl e) = inl (inl e)
in_append t (x ∷ a) b (inr h) = ⊎_elim (λ k. inl (inr k)) (λ k. inr k) (in_append t a b h)

way_inside : (w : Option ℤ) (n t : ℕ) → Inside w n → In t (way_list w) → t < n
way_inside w n t h i = grind arith

-- a way out that stays inside is a slot number
way_there : (w : ℤ) (n : ℕ) → Inside (Some w) n → (t : ℕ) × In t (way_list (Some w))
way_there (pos k) n h = (k, inl refl)
way_there (negsuc k) n h = absurd h

-- the ways out of an instruction at slot i, by its kind
abbrev ways_from : Kind → ℤ → ℕ → List ℕ
ways_from k target i = let w = ways_by k (pos (i + 1)) target in way_list w.0 ++ way_list w.1

saves_on : (k : Kind) (offset imm target : ℤ) (i : ℕ) → role_by k offset imm ≡ Save → ways_from k target i ≡ suc i ∷ []
saves_on k offset imm target i e = grind arith

idles_on : (k : Kind) (offset imm : ℤ) (i : ℕ) → role_by k offset imm ≡ Idle → ways_from k (pos (i + 1) +ℤ offset) i ≡ suc i ∷ []
idles_on k offset imm i e = grind arith

exits_on : (k : Kind) (offset imm target : ℤ) (i : ℕ) → role_by k offset imm ≡ Exit → ways_from k target i ≡ []
exits_on k offset imm target i e = grind arith

others_on : (k : Kind) (offset imm target : ℤ) (i n : ℕ) → Inside (ways_by k (pos (i + 1)) target).1 n → ending (role_by k offset imm) ≡ false
    → (t : ℕ) × In t (ways_from k target i)
others_on kind.Exit offset imm target i n h e = cc
others_on kind.Jump offset imm target i n h e = way_there target n h
others_on kind.Call offset imm target i n h e = (i + 1, inl refl)
others_on (kind.Arithmetic w o s) offset imm target i n h e = (i + 1, inl refl)
others_on (kind.Branch w o s) offset imm target i n h e = (i + 1, inl refl)
others_on (kind.Load z) offset imm target i n h e = (i + 1, inl refl)
others_on (kind.StoreImm z) offset imm target i n h e = (i + 1, inl refl)
others_on (kind.StoreReg z) offset imm target i n h e = (i + 1, inl refl)

-- what holds of the ways out of every instruction at slot i holds of those of slot i, if it holds where there is none
module _ (image : List ℕ) (i : ℕ) where
  by_instruction : (P : Role → List ℕ → Type 0) → P Other []
      → ((x : Instruction) → instruction_at image i ≡ Some x → x.at ≡ i → P (role_of x) (ways_in (Some x))) → P (role_at image i) (ways_at image i)
  unfolding role_at ways_at
  by_instruction P none some = go (instruction_at image i) refl
    where
      go : (o : Option Instruction) → instruction_at image i ≡ o → P (role_in o) (ways_in o)
      go None e = none
      go (Some x) e = some x e (stands_at image i x e)

  pub saves_at_lem : role_at image i ≡ Save → ways_at image i ≡ suc i ∷ []
  saves_at_lem =
      by_instruction (λ r l. r ≡ Save → l ≡ suc i ∷ []) (λ e. cc)
      (λ x e at. subst (λ (j : ℕ). role_of x ≡ Save → ways_in (Some x) ≡ suc j ∷ []) at (saves_on x.kind x.fields.offset x.fields.imm _ x.at))

  pub idles_at : role_at image i ≡ Idle → ways_at image i ≡ suc i ∷ []
  idles_at =
      by_instruction (λ r l. r ≡ Idle → l ≡ suc i ∷ []) (λ e. cc)
      (λ x e at. subst (λ (j : ℕ). role_of x ≡ Idle → ways_in (Some x) ≡ suc j ∷ []) at (idles_on x.kind x.fields.offset x.fields.imm x.at))

  exits_at : role_at image i ≡ Exit → ways_at image i ≡ []
  exits_at =
      by_instruction (λ r l. r ≡ Exit → l ≡ []) (λ e. refl) (λ x e at. exits_on x.kind x.fields.offset x.fields.imm _ x.at)

  module _ (lawful : Lawful image) where
    pub inside_at : (t : ℕ) → In t (ways_at image i) → t < slot_count image
    inside_at t =
        by_instruction (λ r l. In t l → t < slot_count image) (λ h. absurd h)
        (λ x e at h.
        let p = lawful.inside i x e in
        ⊎_elim (way_inside (ways_out x).0 (slot_count image) t p.0) (way_inside (ways_out x).1 (slot_count image) t p.1)
        (in_append t (way_list (ways_out x).0) (way_list (ways_out x).1) h))

    others_at : i < slot_count image → ending (role_at image i) ≡ false → (t : ℕ) × In t (ways_at image i)
    unfolding role_at ways_at
    others_at h q =
        let p = lawful.legal i h in
        let x = p.0 in
        let there = others_on x.kind x.fields.offset x.fields.imm _ x.at (slot_count image) (lawful.inside i x p.1).1
        (sym (ap (λ (o : Option Instruction). ending (role_in o)) p.1) ∙ q) in
        (there.0, subst⁻¹ (λ (o : Option Instruction). In there.0 (ways_in o)) p.1 there.1)

price_within : (r : Role) (most saving : ℕ) → most ≤ 65535 → saving ≤ 65535 → price_by r most saving ≤ 131070
price_within r most saving a b = grind arith

price_small : (m : Model) → Bounded m → (image : List ℕ) (i : ℕ) → price_at m image i ≤ 131070
unfolding price_at
price_small m bounded image i = grind arith

endings_at : (m : Model) (image : List ℕ) (i : ℕ) → ending (role_at image i) ≡ true → m.dearest ≤ price_at m image i
unfolding role_at price_at
endings_at m image i e = grind arith

sized_between : (image : List ℕ) → well_sized image ≡ true → (0 < slot_count image) × (slot_count image ≤ 1024)
sized_between image e = grind arith

pub lawful_sound : LawfulSound
lawful_sound m image lawful =
    record {
      some = (sized_between image lawful.sized).0;
      inside = λ n t h. inside_at image n lawful t;
      saves = saves_at_lem image;
      exits = exits_at image;
      others = λ n h. others_at image n lawful h;
    }

pub lawful_small : LawfulSmall
lawful_small m bounded image lawful =
    record { each = price_small m bounded image; all = let h = (sized_between image lawful.sized).1 in omega arith }

pub lawful_placeable : LawfulPlaceable
lawful_placeable m image lawful =
    record { sound = lawful_sound m image lawful; idled = idles_at image; endings = endings_at m image }
