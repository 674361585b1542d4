-- What the answer of placing means.
use Rattle.std.proofs.Common.{◌≡◌, ℕ, Bool, List, Ok, Err, Result, refl, subst, arith}
use mathlib.Core.Path.{subst⁻¹}
use Rattle.isa.specs.declared.refusal.Unplaceable.{Unplaceable}
use Rattle.isa.specs.declared.refusal.Unplaceable.TheVariants as unplaceable
use Rattle.isa.specs.declared.refusal.Refusal.{Refusal}
use Rattle.isa.specs.declared.refusal.Refusal.TheVariants.{NoPlacement}
use Rattle.pricing.specs.Model.{Model}
use Rattle.paths.specs.declared.worth.Worth.{Worth}
use Rattle.walks.specs.Graph.{Graph}
use Rattle.walks.specs.Acceptance.{Accepted, accepted, loop, over, Means}
use Rattle.walks.specs.ImageGraph.{graph_of}
use Rattle.walks.specs.Placing.{idles, turned, Placement, left, refused, Tight, Hopeless, RightPlacement}
use Rattle.walks.proofs.Imaging.{lawful_placeable}
use Rattle.walks.proofs.Turning.{placement_right}
use Rattle.certifier.specs.Certify.{and_then, admission, InOrder}
use Rattle.certifier.proofs.Admitting.{admitted, early_number}
use Rattle.placer.specs.Turn.{turned_image}
use Rattle.placer.specs.Place.{placement_of, answer_by, image_by, left_by, placing, placed_image, answer_of, Meaning, Left}
use Rattle.placer.proofs.ImageTurning.{turned_image_lem}
use Rattle.placer.proofs.TurnedGraph.{graph_turned, order_turned}

module _ (m : Model) (before : List ℕ) (budget room : ℕ) where
  abbrev g : Graph
  g = graph_of m before

  abbrev Means-so : List ℕ → Result (Unit {0}) Refusal → Type 0
  Means-so after r = Meaning m before budget room after r

  module _ (order : InOrder before budget room) where
    by_tight : (P : ℕ → Bool) → Tight m.dearest g budget P → Means-so (turned_image P before) (Ok tt)
    by_tight P t =
        record {
          accepted = (λ e. (order, (P, record { idle = t.idle; fits = t.fits })), λ x. refl);
          refused = (λ x. let e = x.1 in cc, λ x. absurd (x.1 P (record { idle = t.idle; fits = t.fits })));
          carried = λ u e. cc;
          tight = λ e. (P, turned_image_lem P before, t);
          stands = λ e. (
            order_turned m before budget room order P room order.roomy,
            subst⁻¹ (λ (h : Graph). Accepted h budget) (graph_turned m before budget room order P) t.fits,
          );
          kept = λ b e. cc;
        }

    by_hopeless : (u : Unplaceable) → Hopeless m.dearest g budget (answer_of u) → Means-so before (Err (NoPlacement u))
    by_hopeless u h =
        record {
          accepted = (λ e. cc, λ x. absurd (h.none x.1.0 x.1.1.idle x.1.1.fits));
          refused = (λ x. (order, λ P c. h.none P c.idle c.fits), λ x. (u, refl));
          carried = λ v e.
              let same : u ≡ v = cc in subst (λ (w : Unplaceable). Means (turned m.dearest g (idles g)) budget (answer_of w)) same h.means;
          tight = λ e. cc;
          stands = λ e. cc;
          kept = λ b e. refl;
        }

    by_placement : (p : Placement) → RightPlacement m.dearest g budget p → Means-so (image_by p before) (answer_by p)
    by_placement (left P) t = by_tight P t
    by_placement (refused accepted) h = absurd (h.none (idles g) (λ n e. e) h.means)
    by_placement (refused (loop s)) h = by_hopeless (unplaceable.Loop s) h
    by_placement (refused (over s p)) h = by_hopeless (unplaceable.OverBudget s p) h

  -- the checks before the walks never refuse for want of a placement
  never_placed : (b : Refusal) → admission before budget room ≡ Err b → (u : Unplaceable) → b ≡ NoPlacement u → ⊥
  never_placed b e u same = let n = early_number before budget room b e in grind arith

  pub not_admitted : (b : Refusal) → admission before budget room ≡ Err b → Means-so before (Err b)
  not_admitted b e =
      record {
        accepted = (λ f. cc, λ x. let f = (admitted before budget room).1 x.0 in cc);
        refused = (
          λ x. let f = x.1 in let same : b ≡ NoPlacement x.0 = cc in absurd (never_placed b e x.0 same),
          λ x. let f = (admitted before budget room).1 x.0 in cc,
        );
        carried = λ u f. let same : b ≡ NoPlacement u = cc in absurd (never_placed b e u same);
        tight = λ f. cc;
        stands = λ f. cc;
        kept = λ c f. refl;
      }

  placing_means : Means-so (placed_image m before budget room) (placing m before budget room)
  placing_means = go (admission before budget room) refl
    where
      go : (a : Result (Unit {0}) Refusal) → admission before budget room ≡ a
          → Means-so (left_by a (image_by (placement_of m before budget) before) before) (and_then a (answer_by (placement_of m before budget)))
      go (Ok tt) e =
          let order = (admitted before budget room).0 e in
          by_placement order (placement_of m before budget) (placement_right m.dearest g (lawful_placeable m before order.lawful) budget)
      go (Err b) e = not_admitted b e

  pub meaning : (after : List ℕ) (r : Result (Unit {0}) Refusal) → r ≡ placing m before budget room → after ≡ placed_image m before budget room
      → Means-so after r
  meaning after r e f = subst⁻¹ (λ (x : List ℕ). Means-so x r) f (subst⁻¹ (λ (x : Result (Unit {0}) Refusal). Means-so (placed_image m before budget room) x) e placing_means)

  -- a refusal by the checks before the walks leaves the working list
  pub left_early : (old : List Worth) (b : Refusal) → admission before budget room ≡ Err b → Left m before before old old (Err b)
  left_early old b e =
      record {
        accepted = λ f. cc;
        dear = λ s p f.
            let same : b ≡ NoPlacement (unplaceable.OverBudget s p) = cc in absurd (never_placed b e (unplaceable.OverBudget s p) same);
        others = λ c f ne. refl;
      }
