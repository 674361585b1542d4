-- The first answer below a number: how a loop finds it, and what it means.
use Rattle.std.proofs.Common.{◌≡◌, ℕ, zero, suc, ◌+◌, ◌<◌, ◌⊎◌, Some, None, Option, refl, ap, ◌∙◌, subst, inl, inr, ⊎_elim, add-one, arith}
use Rattle.std.specs.Option.{option_or}
use Rattle.std.proofs.lemmas.Bool.{cases_eq}
use Rattle.isa.specs.First.{or_else, first_below, First}

module _ {A : Type 0} where
  pub or_none : (a b : Option A) → or_else a b ≡ None → (a ≡ None) × (b ≡ None)
  or_none None b none = (refl, none)
  or_none (Some x) b none = cc

  pub or_some : (a b : Option A) (r : A) → or_else a b ≡ Some r → (a ≡ Some r) ⊎ ((a ≡ None) × (b ≡ Some r))
  or_some None b r some = inr (refl, some)
  or_some (Some x) b r some = inl some

  pub or_same : (a b : Option A) → option_or a b ≡ or_else a b
  or_same None b = refl
  or_same (Some x) b = refl

  pub or_nothing : (a : Option A) → or_else a None ≡ a
  or_nothing None = refl
  or_nothing (Some x) = refl

module _ {A : Type 0} (f : ℕ → Option A) where
  pub one_more : (i : ℕ) (a b : Option A) → a ≡ first_below f i → b ≡ f i → or_else a b ≡ first_below f (i + 1)
  one_more i a b before here = rw add-one (ap (λ o. or_else o b) before ∙ ap (λ o. or_else (first_below f i) o) here)

  pub none_more : (i : ℕ) → first_below f i ≡ None → f i ≡ None → first_below f (i + 1) ≡ None
  none_more i before here = rw add-one (ap (λ o. or_else o (f i)) before ∙ here)

  pub some_below : (n i : ℕ) (r : A) → i < n → first_below f i ≡ None → f i ≡ Some r → first_below f n ≡ Some r
  some_below zero i r h before here = absurd (omega arith)
  some_below (suc n) i r h before here =
      ⊎_elim
      (λ (e : i ≡ n). subst (λ (k : ℕ). first_below f (suc k) ≡ Some r) e (ap (λ o. or_else o (f i)) before ∙ here))
      (λ (ne : i ≡ n → ⊥). ap (λ o. or_else o (f n)) (some_below n i r (omega arith) before here))
      (cases_eq i n)

  pub none_each : (n : ℕ) → first_below f n ≡ None → (k : ℕ) → k < n → f k ≡ None
  none_each zero none k h = absurd (omega arith)
  none_each (suc n) none k h =
      let both = or_none (first_below f n) (f n) none in
      ⊎_elim (λ (e : k ≡ n). ap f e ∙ both.1) (λ (ne : k ≡ n → ⊥). none_each n both.0 k (omega arith)) (cases_eq k n)

  pub each_none : (n : ℕ) → ((k : ℕ) → k < n → f k ≡ None) → first_below f n ≡ None
  each_none zero each = refl
  each_none (suc n) each =
      ap (λ o. or_else o (f n)) (each_none n (λ k h. each k (omega arith))) ∙ each n (omega arith)

  pub first_of : (n : ℕ) (r : A) → first_below f n ≡ Some r → First f n r
  first_of zero r some = cc
  first_of (suc n) r some =
      ⊎_elim
      (λ (e : first_below f n ≡ Some r).
      let p = first_of n r e in record { at = p.at; below = omega (arith, p.below); given = p.given; before = p.before })
      (λ (e : (first_below f n ≡ None) × (f n ≡ Some r)).
      record { at = n; below = omega arith; given = e.1; before = none_each n e.0 })
      (or_some (first_below f n) (f n) r some)
