-- What a call of `next` takes off the list that an iterator gives.
use Rattle.std.proofs.Common.{◌≡◌, List, [], ◌∷◌, Option, Some, None, refl, ap, sym}
use Rattle.std.proofs.lemmas.Iterator.{YieldsList}

module _ {S A B : Type 0} (steps : S → Option A → S → Type 0) (v : A → B) where
  -- the list is what came and the list of what is left
  pub record Taken (ys : List B) (x : A) (t : S) : Type 0 where
    pub more : List B
    pub is : ys ≡ v x ∷ more
    pub left : YieldsList steps v t more

  pub taken : {s : S} {ys : List B} → YieldsList steps v s ys → (x : A) (t : S) → steps s (Some x) t → Taken ys x t
  taken {ys = []} yields x t step = absurd (yields.runs x t step)
  taken {ys = y ∷ ys} yields x t step =
      let (same, left) = yields.runs.1 x t step in
      record { more = ys; is = ap (λ z. z ∷ ys) (sym same); left = record { runs = left } }

  pub none_left : {s : S} {ys : List B} → YieldsList steps v s ys → (t : S) → steps s None t → ys ≡ []
  none_left {ys = []} yields t step = refl
  none_left {ys = y ∷ ys} yields t step = absurd (yields.runs.0 t step)
