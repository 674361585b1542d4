-- A front that is filled by one value.
use Rattle.std.proofs.Common.{◌≡◌, ℕ, zero, suc, min, List, [], ◌∷◌, ◌++◌, length, get_or, drop, take, refl, arith}
use Rattle.std.proofs.lemmas.Grind.{common_steps}
use Rattle.std.specs.List.{FoldsTo}
use Rattle.paths.specs.Kind.{PathKind}
use Rattle.certifier.specs.Clear.{Cleared}

-- where each call gives e, and keeps what S says of the function, the list of what they gave is e everywhere
module _ {F V : Type 0} (R : F → V → F → Type 0) (e : V) (S : F → Type 0) (gives : (p q : F) (x : V) → S p → R p x q → S q × (x ≡ e)) where
  pub all_given : (xs : List V) (f last : F) → S f → FoldsTo R f xs last → (n : ℕ) → get_or xs n e ≡ e
  all_given [] f last s h n = refl
  all_given (x ∷ xs) f last s (q, r, rest) zero = (gives f q x s r).1
  all_given (x ∷ xs) f last s (q, r, rest) (suc n) = all_given xs q last (gives f q x s r).0 rest n

pub cleared : {V : Type 0} (k : PathKind V) (count m : ℕ) (xs ys : List V) → m ≡ min count (length xs) → length ys ≡ length (take m xs)
    → ((n : ℕ) → get_or ys n k.empty ≡ k.empty) → Cleared k count xs (ys ++ drop m xs)
cleared k count m xs ys e l all = record { below = λ n h. grind (arith, common_steps, all n); beyond = λ n h. grind (arith, common_steps) }
