-- What comes out of writing the saves that are settled, and certifying, is the placement.
use Rattle.std.proofs.Common.{◌≡◌, ℕ, ◌/◌, Bool, true, false, cond, List, length, get_or, Ok, Err, Result, sym, refl, ap, ◌∙◌, arith}
use Rattle.std.proofs.lemmas.Bool.{cond-true, cond-false}
use Rattle.isa.specs.declared.refusal.Refusal.{Refusal}
use Rattle.isa.specs.Slot.{slot_count}
use Rattle.pricing.specs.Model.{Model}
use Rattle.paths.specs.declared.worth.Worth.{Worth}
use Rattle.walks.specs.Graph.{Graph}
use Rattle.walks.specs.Acceptance.{Answer, accepted, loop, over}
use Rattle.walks.specs.Certified.{certified}
use Rattle.walks.specs.ImageGraph.{graph_of}
use Rattle.walks.specs.Placing.{idles, turned, is_accepted, allowed, placed, placement_by}
use Rattle.walks.proofs.Dropping.{dropped_within, dropped_ok}
use Rattle.certifier.specs.Certify.{result_of, certification, InOrder}
use Rattle.certifier.specs.Certify as certify
use Rattle.placer.specs.SlotBytes.{with_marked, idle_bytes, save_bytes}
use Rattle.placer.specs.Turn.{idles_in, turned_image}
use Rattle.placer.specs.Settle.{settled}
use Rattle.placer.specs.Place.{unplaced, answer_by, image_by, placement_of, Left}
use Rattle.placer.proofs.ImageTurning.{length_turned}
use Rattle.placer.proofs.Marking.{turned_upward, undone_all}
use Rattle.placer.proofs.TurnedGraph.{certified_turned}

accepted_result : (a : Answer) → is_accepted a ≡ true → result_of a ≡ Ok tt
accepted_result a h1 = grind arith

-- the list that the certifier leaves, where it refuses the image with every idle slot turned
pub left_refused : (m : Model) (before after last : List ℕ) (old new : List Worth) (a : Answer) (r out : Result (Unit {0}) Refusal)
    → is_accepted a ≡ false → result_of a ≡ r → out ≡ unplaced a
    → after ≡ turned_image (idles_in before) before → certify.Left (graph_of m after) old new r → Left m before last old new out
left_refused m before after last old new a r out h1 h2 h3 h4 h5 = grind arith

pub left_accepted : (m : Model) (before after : List ℕ) (old new : List Worth) (r : Result (Unit {0}) Refusal) → r ≡ Ok tt
    → certify.Left (graph_of m after) old new r → Left m before after old new (Ok tt)
left_accepted m before after old new r h1 h2 = grind arith

module _ (m : Model) (before : List ℕ) (budget room : ℕ) (order : InOrder before budget room)
    (marks : List Bool) (marked : (n : ℕ) → get_or marks n false ≡ settled m before budget n) where
  abbrev g : Graph
  g = graph_of m before

  -- the answer about the image with every idle slot turned
  abbrev first : Answer
  first = certified (turned m.dearest g (idles g)) budget

  abbrev ok : (ℕ → Bool) → Bool
  ok = allowed m.dearest g budget

  abbrev saves : ℕ → Bool
  saves = settled m before budget

  saves_idle : (n : ℕ) → saves n ≡ true → idles_in before n ≡ true
  saves_idle n = go (is_accepted first)
    where
      go : (b : Bool) → cond b (placed m.dearest g budget) (idles g) n ≡ true → idles g n ≡ true
      go true e = dropped_within ok g.size 0 (idles g) n e
      go false e = e

  module _ (after : List ℕ) (written : after ≡ with_marked marks save_bytes (slot_count before) before) where
    turns : after ≡ turned_image saves before
    turns = written ∙ turned_upward before saves saves_idle marks (λ n h. marked n)

    after_accepted : is_accepted first ≡ true → after ≡ turned_image (placed m.dearest g budget) before
    after_accepted e = turns ∙ ap (λ (P : ℕ → Bool). turned_image P before) (cond-true _ _ _ e)

    after_refused : is_accepted first ≡ false → after ≡ turned_image (idles_in before) before
    after_refused e = turns ∙ ap (λ (P : ℕ → Bool). turned_image P before) (cond-false _ _ _ e)

    certified_after : (P : ℕ → Bool) → after ≡ turned_image P before → certification m after budget room ≡ result_of (certified (turned m.dearest g P) budget)
    certified_after P e =
        ap (λ (image : List ℕ). certification m image budget room) e ∙ certified_turned m before budget room order P room order.roomy

    accepted_after : is_accepted first ≡ true → certification m after budget room ≡ Ok tt
    accepted_after e =
        certified_after (placed m.dearest g budget) (after_accepted e)
        ∙ accepted_result _ (dropped_ok ok g.size 0 (idles_in before) e)

    abbrev Answered : Result (Unit {0}) Refusal → List ℕ → Answer → Type 0
    Answered r image a =
        (r ≡ answer_by (placement_by m.dearest g budget a)) × (image ≡ image_by (placement_by m.dearest g budget a) before)

    pub at_ok : certification m after budget room ≡ Ok tt
        → (Ok tt ≡ answer_by (placement_of m before budget)) × (after ≡ image_by (placement_of m before budget) before)
    at_ok e = go first refl
      where
        go : (a : Answer) → first ≡ a → Answered (Ok tt) after a
        go accepted f = (refl, after_accepted (ap is_accepted f))
        go (loop s) f =
            let h = certified_after (idles_in before) (after_refused (ap is_accepted f)) ∙ ap result_of f in cc
        go (over s p) f =
            let h = certified_after (idles_in before) (after_refused (ap is_accepted f)) ∙ ap result_of f in cc

    undone_after : with_marked marks idle_bytes (slot_count after) after ≡ before
    undone_after =
        let n : slot_count after ≡ slot_count before = ap (λ (k : ℕ). k / 8) (ap length turns ∙ length_turned saves before) in
        ap (λ (k : ℕ). with_marked marks idle_bytes k after) n ∙ ap (with_marked marks idle_bytes (slot_count before)) turns
        ∙ undone_all before saves saves_idle marks (λ n h. marked n)

    pub record AtErr (b : Refusal) (out : List ℕ) : Type 0 where
      pub value : unplaced first ≡ answer_by (placement_of m before budget)
      pub image : out ≡ image_by (placement_of m before budget) before
      pub turned : after ≡ turned_image (idles_in before) before
      pub refuses : is_accepted first ≡ false
      pub result : result_of first ≡ Err b

    pub at_err : (b : Refusal) (out : List ℕ) → certification m after budget room ≡ Err b → out ≡ with_marked marks idle_bytes (slot_count after) after → AtErr b out
    at_err b out e u =
        record {
          value = (go first refl).0;
          image = (go first refl).1;
          turned = stuck;
          refuses = refusing (is_accepted first) refl;
          result = sym (certified_after (idles_in before) stuck) ∙ e;
        }
      where
        refusing : (t : Bool) → is_accepted first ≡ t → is_accepted first ≡ false
        refusing false f = f
        refusing true f = let h = accepted_after f in cc

        stuck : after ≡ turned_image (idles_in before) before
        stuck = after_refused (refusing (is_accepted first) refl)

        go : (a : Answer) → first ≡ a → Answered (unplaced a) out a
        go accepted f = let h = accepted_after (ap is_accepted f) in cc
        go (loop s) f = (refl, u ∙ undone_after)
        go (over s p) f = (refl, u ∙ undone_after)
