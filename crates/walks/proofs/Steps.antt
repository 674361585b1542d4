-- Steps from node to node: a search of n steps among n nodes finds whatever any number of steps finds.
use Rattle.std.proofs.Common.{◌≡◌, ℕ, zero, suc, ◌<◌, ◌≤◌, true, eqb, List, [], ◌∷◌, ◌++◌, length, sym, subst, inl, inr, ⊎_elim, arith}
use Rattle.std.proofs.lemmas.Bool.{or_cases, or_left, or_right, eqb-true, eq-eqb}
use Rattle.paths.specs.Net.{In}
use Rattle.walks.specs.Acceptance.{Twice}
use Rattle.walks.specs.Reached.{any, near}
use Rattle.walks.proofs.Lists.{any_sound, any_complete, Distinct, cases_in, fits}

module _ (step : ℕ → List ℕ) where
  -- from a, by the nodes of the list, to b
  abbrev pub Steps : ℕ → List ℕ → ℕ → Type 0
  Steps a [] b = a ≡ b
  Steps a (m ∷ l) b = In m (step a) × Steps m l b

  pub steps_on : (l r : List ℕ) (a m b : ℕ) → Steps a l m → Steps m r b → Steps a (l ++ r) b
  steps_on [] r a m b e q = subst (λ (x : ℕ). Steps x r b) (sym e) q
  steps_on (u ∷ l) r a m b p q = (p.0, steps_on l r u m b p.1 q)

  pub last_in : (l : List ℕ) (a x : ℕ) → Steps a l x → In x (a ∷ l)
  last_in [] a x e = inl (sym e)
  last_in (m ∷ l) a x p = inr (last_in l m x p.1)

  pub twice_join : (l r : List ℕ) (a x : ℕ) → Steps a l x → In x r → Twice x (a ∷ (l ++ r))
  twice_join [] r a x e i = inl (sym e, i)
  twice_join (m ∷ l) r a x p i = inr (twice_join l r m x p.1 i)

  pub twice_on : (l r : List ℕ) (a m x : ℕ) → Steps a l m → Twice x (m ∷ r) → Twice x (a ∷ (l ++ r))
  twice_on [] r a m x e t = subst (λ (y : ℕ). Twice x (y ∷ r)) (sym e) t
  twice_on (u ∷ l) r a m x p t = inr (twice_on l r u m x p.1 t)

  pub near_sound : (t k n : ℕ) → near step t k n ≡ true → (l : List ℕ) × Steps n l t
  near_sound t zero n h = ([], eqb-true n t h)
  near_sound t (suc k) n h =
      ⊎_elim (λ (e : eqb n t ≡ true). ([], eqb-true n t e))
      (λ (u : any (near step t k) (step n) ≡ true).
      let q = any_sound (near step t k) (step n) u in let p = near_sound t k q.0 q.2 in (q.0 ∷ p.0, (q.1, p.1)))
      (or_cases (eqb n t) (any (near step t k) (step n)) h)

  near_complete : (t k n : ℕ) (l : List ℕ) → length l ≤ k → Steps n l t → near step t k n ≡ true
  near_complete t zero n [] h e = eq-eqb n t e
  near_complete t (suc k) n [] h e = or_left (eqb n t) (any (near step t k) (step n)) (eq-eqb n t e)
  near_complete t zero n (m ∷ l) h p = absurd (let z : suc (length l) ≤ 0 = h in omega arith)
  near_complete t (suc k) n (m ∷ l) h p =
      or_right (eqb n t) (any (near step t k) (step n))
      (any_complete (near step t k) (step n) m p.0 (near_complete t k m l (omega arith) p.1))

  -- the steps from one of the nodes on
  from : (l : List ℕ) (m a b : ℕ) → Steps m l b → Distinct (m ∷ l) → In a (m ∷ l) → (r : List ℕ) × Steps a r b × Distinct (a ∷ r)
  from l m a b p d (inl e) = (l, subst (λ (x : ℕ). Steps x l b) (sym e) p, subst (λ (x : ℕ). Distinct (x ∷ l)) (sym e) d)
  from [] m a b p d (inr i) = absurd i
  from (u ∷ l) m a b p d (inr i) = from l u a b p.1 d.1 i

  -- no steps go round in vain
  shorten : (l : List ℕ) (a b : ℕ) → Steps a l b → (r : List ℕ) × Steps a r b × Distinct (a ∷ r)
  shorten [] a b p = ([], p, (λ h. h, tt))
  shorten (m ∷ l) a b p = go (shorten l m b p.1)
    where
      go : (r : List ℕ) × Steps m r b × Distinct (m ∷ r) → (r : List ℕ) × Steps a r b × Distinct (a ∷ r)
      go q = ⊎_elim (λ i. from q.0 m a b q.1 q.2 i) (λ ni. (m ∷ q.0, (p.0, q.1), (ni, q.2))) (cases_in a (m ∷ q.0))

  module _ (n : ℕ) (closed : (s t : ℕ) → s < n → In t (step s) → t < n) where
    below : (l : List ℕ) (a b : ℕ) → a < n → Steps a l b → (x : ℕ) → In x (a ∷ l) → x < n
    below l a b h p x (inl e) = omega arith
    below [] a b h p x (inr i) = absurd i
    below (m ∷ l) a b h p x (inr i) = below l m b (closed a m h p.0) p.1 x i

    pub near_all : (a b : ℕ) (l : List ℕ) → a < n → Steps a l b → near step b n a ≡ true
    near_all a b l h p =
        let q = shorten l a b p in
        let f : length (a ∷ q.0) ≤ n = fits n (a ∷ q.0) q.2 (below q.0 a b h q.1) in
        near_complete b n a q.0 (omega arith) q.1
