-- A table of what a function says of each slot, made at once or filled entry by entry.
use Rattle.std.proofs.Common.{◌≡◌, ℕ, zero, suc, ◌+◌, ◌<◌, ◌≤◌, List, length, get_or, set, sym, ap, ◌∙◌, ⊎_elim, arith, length-set, get_or-set_other, get_or-set_same}
use mathlib.Core.Path.{subst⁻¹}
use Rattle.std.proofs.lemmas.Bool.{cases_eq}
use Rattle.std.specs.Array.{IsFromFnResultFrom}
use Rattle.std.specs.Fn.{Called, Mut}
use Rattle.tables.specs.Node.{Tabled}

pub table_put : {A : Type 0} (d : A) (xs : List A) (f : ℕ → A) (i : ℕ) (v : A) → i < 1024 → v ≡ f i → Tabled d xs f i → Tabled d (set xs i v) f (i + 1)
table_put d xs f i v h e t =
    record {
      size = length-set xs i v ∙ t.size;
      holds = λ k l. ⊎_elim
          (λ (q : k ≡ i).
          let s = t.size in
          let b : i < length xs = omega arith in
          ap (λ (j : ℕ). get_or (set xs i v) j d) q ∙ get_or-set_same xs i v d b ∙ e ∙ ap f (sym q))
          (λ (n : k ≡ i → ⊥). get_or-set_other xs i k v d n ∙ t.holds k (omega arith))
          (cases_eq k i);
    }

-- what each call gives is at its place, where no call changes what S says of the function
module _ {F B : Type 0} (g : Mut F (ℕ × Unit {0}) B) (P : ℕ → B → Type 0) (S : F → Type 0)
    (calls : (p q : F) (i : ℕ) (y : B) → S p → Called g p (i, tt) y q → S q × P i y) (ys : List B) where
  pub made_at : (k i : ℕ) (f : F) → S f → IsFromFnResultFrom g f ys i k → (j : ℕ) (d : B) → i ≤ j → j < i + k → P j (get_or ys j d)
  made_at zero i f s made j d a b = absurd (omega arith)
  made_at (suc k) i f s (q, y, element, called, rest) j d a b =
      let now = calls f q i y s called in
      ⊎_elim
      (λ (e : j ≡ i). subst⁻¹ (λ (n : ℕ). P n (get_or ys n d)) e (subst⁻¹ (P i) (element.1 d) now.1))
      (λ (ne : j ≡ i → ⊥). made_at k (i + 1) q now.0 rest j d (omega arith) (omega arith))
      (cases_eq j i)
