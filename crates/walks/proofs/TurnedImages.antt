-- The graph of an image with idle slots turned into saves is the turned graph.
use Rattle.std.proofs.Common.{◌≡◌, ℕ, suc, ◌+◌, ◌/◌, ◌<◌, Bool, true, false, cond, ◌&&◌, List, ℤ, pos, Some, Option, sym, refl, ap, ◌∙◌, subst, inl, ⊎_elim, arith}
use mathlib.Core.Path.{subst⁻¹}
use Rattle.std.proofs.lemmas.Bool.{and_parts, cases_Bool, cond-true}
use Rattle.isa.specs.declared.kind.Kind.{Kind}
use Rattle.isa.specs.declared.instruction.Instruction.{Instruction}
use Rattle.isa.specs.declared.instruction.Role.{Role}
use Rattle.isa.specs.declared.instruction.Role.TheVariants.{Save, Idle}
use Rattle.isa.specs.Slot.{slot_count}
use Rattle.isa.specs.Instruction.{ways_by, ways_out, role_by, role_of}
use Rattle.isa.specs.Image.{instruction_at}
use Rattle.isa.specs.Lawful.{Inside, Lawful}
use Rattle.paths.specs.Net.{In}
use Rattle.pricing.specs.Model.{Model}
use Rattle.walks.specs.ImageGraph.{price_by, role_in, ways_in, price_in, role_at, ways_at, price_at, graph_of}
use Rattle.walks.specs.Placing.{is_idle, turned}
use Rattle.walks.specs.TurnedImage.{TurnedImage, TurnedRight}
use Rattle.walks.proofs.Imaging.{stands_at, saves_at_lem, idles_at, inside_at}

idle_only : (r : Role) → is_idle r ≡ true → r ≡ Idle
idle_only r e = grind arith

-- a save goes to the next slot alone
save_inside : (k : Kind) (offset imm target : ℤ) (i n : ℕ) → role_by k offset imm ≡ Save → suc i < n
    → Inside (ways_by k (pos (i + 1)) target).0 n × Inside (ways_by k (pos (i + 1)) target).1 n
save_inside k offset imm target i n e h = grind arith

module _ (m : Model) (P : ℕ → Bool) (before after : List ℕ) (t : TurnedImage P before after) where
  abbrev turns_at : ℕ → Bool
  turns_at i = is_idle (role_at before i) && P i

  -- what a slot is after, by whether it turns
  by_turn : {A : Type 0} (f : Option Instruction → A) (a : A) → ((x : Instruction) → role_of x ≡ Save → f (Some x) ≡ a)
      → (i : ℕ) → f (instruction_at after i) ≡ cond (turns_at i) a (f (instruction_at before i))
  by_turn f a saved i = grind arith

  role_after : (i : ℕ) → role_at after i ≡ cond (turns_at i) Save (role_at before i)
  unfolding role_at
  role_after = by_turn role_in Save (λ x e. e)

  price_after : (i : ℕ) → price_at m after i ≡ cond (turns_at i) m.dearest (price_at m before i)
  unfolding role_at price_at
  price_after =
      by_turn (price_in m) m.dearest (λ x e. ap (λ (r : Role). price_by r (m.most x.fields.opcode x.fields.imm) m.dearest) e)

  ways_after : (i : ℕ) → ways_at after i ≡ ways_at before i
  unfolding ways_at
  ways_after i =
      ⊎_elim
      (λ (e : turns_at i ≡ true).
      let idle = (and_parts (is_idle (role_at before i)) (P i) e).0 in
      saves_at_lem after i (role_after i ∙ cond-true _ _ _ e) ∙ sym (idles_at before i (idle_only (role_at before i) idle)))
      (λ (e : turns_at i ≡ false). ap ways_in (t.keeps i e))
      (cases_Bool (turns_at i))

  count_after : slot_count after ≡ slot_count before
  count_after = ap (λ (k : ℕ). k / 8) t.sized

  graph_after : graph_of m after ≡ turned m.dearest (graph_of m before) P
  graph_after =
      λ j.
      record {
        size = count_after j;
        role = λ n. role_after n j;
        ways = λ n. ways_after n j;
        price = λ n. price_after n j;
        slot = λ n. n;
      }

  module _ (lawful : Lawful before) where
    inside_after : (i : ℕ) (x : Instruction) → instruction_at after i ≡ Some x
        → Inside (ways_out x).0 (slot_count after) × Inside (ways_out x).1 (slot_count after)
    inside_after i x e =
        subst⁻¹ (λ (n : ℕ). Inside (ways_out x).0 n × Inside (ways_out x).1 n) count_after
        (⊎_elim
        (λ (b : turns_at i ≡ true).
        let y = t.turns i b in
        let same : y.0 ≡ x = let p = y.1 in cc in
        let idle = idle_only (role_at before i) (and_parts (is_idle (role_at before i)) (P i) b).0 in
        let next : suc i < slot_count before = inside_at before i lawful (suc i) (subst⁻¹ (λ (l : List ℕ). In (suc i) l) (idles_at before i idle) (inl refl)) in
        save_inside x.kind x.fields.offset x.fields.imm _ x.at (slot_count before) (subst (λ (z : Instruction). role_of z ≡ Save) same y.2)
        (subst⁻¹ (λ (j : ℕ). suc j < slot_count before) (stands_at after i x e) next))
        (λ (b : turns_at i ≡ false). lawful.inside i x (sym (t.keeps i b) ∙ e))
        (cases_Bool (turns_at i)))

    lawful_after : Lawful after
    lawful_after =
        record {
          sized = rw t.sized lawful.sized;
          legal = λ i h.
              ⊎_elim (λ (b : turns_at i ≡ true). let y = t.turns i b in (y.0, y.1))
              (λ (b : turns_at i ≡ false).
              let y = lawful.legal i (subst (λ (n : ℕ). i < n) count_after h) in (y.0, t.keeps i b ∙ y.1))
              (cases_Bool (turns_at i));
          inside = inside_after;
        }

pub turned_right : TurnedRight
turned_right m P before after t = (graph_after m P before after t, lawful_after m P before after t)
