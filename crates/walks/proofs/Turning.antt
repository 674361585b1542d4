-- Turning more idle nodes keeps what was accepted, so what the placer leaves turned is needed, and what it refuses is hopeless.
use Rattle.std.proofs.Common.{◌≡◌, ℕ, Bool, true, refl, subst, arith}
use mathlib.Core.Path.{subst⁻¹}
use Rattle.walks.specs.Graph.{Graph, Sound}
use Rattle.walks.specs.Acceptance.{Accepted, Answer, accepted, loop, over, Means}
use Rattle.walks.specs.Certified.{certified}
use Rattle.walks.specs.Placing.{Within, without, idles, turned, is_accepted, tried, allowed, placed, placement_by, Tight, RightPlacement, Placeable, PlacementRight}
use Rattle.walks.proofs.Cutting.{Cut, cut_accepted}
use Rattle.walks.proofs.Certifying.{certified_means, means_one}
use Rattle.walks.proofs.Dropping.{dropped_within, dropped_ok, dropped_tight, dropped_upward}

accepted_only : (a : Answer) → is_accepted a ≡ true → a ≡ accepted
accepted_only a t = grind arith

module _ (saving : ℕ) (g : Graph) (placeable : Placeable saving g) where
  pub turned_sound : (P : ℕ → Bool) → Sound (turned saving g P)
  turned_sound P = grind arith

  turned_cut : (P Q : ℕ → Bool) → Within P Q → Cut saving (turned saving g P) (turned saving g Q)
  turned_cut P Q e = grind arith

  module _ (budget : ℕ) where
    pub turned_more : (P Q : ℕ → Bool) → Within P Q → Accepted (turned saving g P) budget → Accepted (turned saving g Q) budget
    turned_more P Q w =
        cut_accepted saving (turned saving g P) (turned saving g Q) (turned_cut P Q w) (turned_sound P) (turned_sound Q) budget

    pub allowed_is : (P : ℕ → Bool) → allowed saving g budget P ≡ true → Accepted (turned saving g P) budget
    allowed_is P t =
        let h = turned saving g P in
        subst (Means h budget) (accepted_only (certified h budget) t) (certified_means h (turned_sound P) budget)

    pub allowed_yes : (P : ℕ → Bool) → Accepted (turned saving g P) budget → allowed saving g budget P ≡ true
    allowed_yes P a =
        let h = turned saving g P in
        subst⁻¹ (λ (b : Answer). is_accepted b ≡ true) (means_one h budget (certified h budget) accepted (certified_means h (turned_sound P) budget) a) refl

    allowed_more : (P Q : ℕ → Bool) → Within P Q → allowed saving g budget P ≡ true → allowed saving g budget Q ≡ true
    allowed_more P Q w t = allowed_yes Q (turned_more P Q w (allowed_is P t))

    placed_tight : Accepted (turned saving g (idles g)) budget → Tight saving g budget (placed saving g budget)
    placed_tight a =
        let ok = allowed saving g budget in
        let I = idles g in
        let R = placed saving g budget in
        record {
          idle = λ n r. dropped_within ok g.size 0 I n r;
          fits = allowed_is R (dropped_ok ok g.size 0 I (allowed_yes I a));
          needed = λ n h r b. dropped_tight ok allowed_more g.size 0 I n (omega arith) (omega arith) r (allowed_yes (without n R) b);
          upward = λ n h t.
              let q = dropped_upward ok allowed_more I g.size 0 I (λ m l. (λ x. x, λ x. x)) n (omega arith) (omega arith) t in
              (λ r b. q.0 r (allowed_yes (tried I n R) b), λ fails. q.1 (λ b. fails (allowed_is (tried I n R) b)));
        }

    refused_all : (Accepted (turned saving g (idles g)) budget → ⊥) → (P : ℕ → Bool) → Within P (idles g) → Accepted (turned saving g P) budget → ⊥
    refused_all fails P w a = fails (turned_more P (idles g) w a)

    by_answer : (a : Answer) → Means (turned saving g (idles g)) budget a → RightPlacement saving g budget (placement_by saving g budget a)
    by_answer accepted m = placed_tight m
    by_answer (loop n) m = record { means = m; none = refused_all (λ a. a.unlooped n m.has) }
    by_answer (over n p) m = record { means = m; none = refused_all (λ a. a.paid n m.lowest.has) }

pub placement_right : PlacementRight
placement_right saving g placeable budget =
    let h = turned saving g (idles g) in
    by_answer saving g placeable budget (certified h budget) (certified_means h (turned_sound saving g placeable (idles g)) budget)
