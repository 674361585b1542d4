-- Lists of nodes: tests, elements, and how long a list below n without repeats can be.
use Rattle.std.proofs.Common.{◌≡◌, ℕ, ◌<◌, ◌≤◌, Bool, true, false, eqb, ◌⊎◌, List, [], ◌∷◌, length, refl, subst, inl, inr, ⊎_elim}
use Rattle.std.proofs.lemmas.Bool.{cases_eq, eqb-true, ne_eqb, or_cases, or_left, or_right}
use Rattle.std.proofs.lemmas.Map.Steps.{length-le_from_distinct_below}
use Rattle.std.specs.List.{AllByRecursion, IsDistinct, list_any}
use Rattle.paths.specs.Net.{In}
use Rattle.walks.specs.Reached.{any}

pub cases_in : (x : ℕ) (l : List ℕ) → In x l ⊎ (In x l → ⊥)
cases_in x [] = inr (λ h. h)
cases_in x (y ∷ l) = go (cases_eq x y) (cases_in x l)
  where
    go : (x ≡ y) ⊎ (x ≡ y → ⊥) → In x l ⊎ (In x l → ⊥) → In x (y ∷ l) ⊎ (In x (y ∷ l) → ⊥)
    go (inl e) q = inl (inl e)
    go (inr ne) (inl i) = inl (inr i)
    go (inr ne) (inr ni) = inr (λ h. ⊎_elim ne ni h)

pub any_sound : (f : ℕ → Bool) (l : List ℕ) → any f l ≡ true → (x : ℕ) × In x l × (f x ≡ true)
any_sound f [] t = cc
any_sound f (x ∷ l) t =
    ⊎_elim (λ (h : f x ≡ true). (x, inl refl, h)) (λ (h : any f l ≡ true). let q = any_sound f l h in (q.0, inr q.1, q.2))
    (or_cases (f x) (any f l) t)

pub any_complete : (f : ℕ → Bool) (l : List ℕ) (x : ℕ) → In x l → f x ≡ true → any f l ≡ true
any_complete f [] x i t = absurd i
any_complete f (y ∷ l) x (inl e) t = or_left (f y) (any f l) (subst (λ (z : ℕ). f z ≡ true) e t)
any_complete f (y ∷ l) x (inr i) t = or_right (f y) (any f l) (any_complete f l x i t)

-- no element stands twice
abbrev pub Distinct : List ℕ → Type 0
Distinct [] = Unit {0}
Distinct (x ∷ l) = (In x l → ⊥) × Distinct l

out_all : (x : ℕ) (l : List ℕ) → (In x l → ⊥) → AllByRecursion (λ (y : ℕ). eqb x y ≡ false) l
out_all x [] out = tt
out_all x (y ∷ l) out = (ne_eqb x y (λ e. out (inl e)), out_all x l (λ i. out (inr i)))

distinct_is : (l : List ℕ) → Distinct l → IsDistinct eqb l
unfolding IsDistinct
distinct_is [] d = tt
distinct_is (x ∷ l) d = (out_all x l d.0, distinct_is l d.1)

in_found : (x : ℕ) (l : List ℕ) → list_any (eqb x) l ≡ true → In x l
in_found x (y ∷ l) t = ⊎_elim (λ e. inl (eqb-true x y e)) (λ h. inr (in_found x l h)) (or_cases (eqb x y) (list_any (eqb x) l) t)
in_found x [] t = cc

-- a list below n in which nothing stands twice is at most n long
pub fits : (n : ℕ) (l : List ℕ) → Distinct l → ((x : ℕ) → In x l → x < n) → length l ≤ n
fits n l d b = length-le_from_distinct_below l n (distinct_is l d) (λ q t. b q (in_found q l t))
