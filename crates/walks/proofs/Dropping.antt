-- The upward pass over a set of nodes, for any test that passes of more where it passes of less: none that it leaves can be dropped.
use Rattle.std.proofs.Common.{◌≡◌, ℕ, zero, suc, ◌+◌, ◌<◌, ◌≤◌, Bool, true, cond, not, ◌&&◌, eqb, ◌↔◌, subst, ⊎_elim, arith}
use mathlib.Core.Path.{subst⁻¹}
use Rattle.std.proofs.lemmas.Bool.{and_parts, and_from, cases_lt, lt-ltb, le-ltb, cond-true, cond-false}
use Rattle.walks.specs.Placing.{Within, without, dropped, tried}

kept_without : (n m : ℕ) (P : ℕ → Bool) → (m ≡ n → ⊥) → P m ≡ true → without n P m ≡ true
kept_without n m P ne t = grind arith

-- a set or the same without n, by a test
module _ (n : ℕ) (P : ℕ → Bool) where
  abbrev next : Bool → ℕ → Bool
  next b = cond b (without n P) P

  next_within : (b : Bool) → Within (next b) P
  next_within b = grind arith

  next_keeps : (b : Bool) (m : ℕ) → (m ≡ n → ⊥) → P m ≡ true → next b m ≡ true
  next_keeps b m e t = grind arith

module _ (ok : (ℕ → Bool) → Bool) where
  -- whether n is dropped from P
  abbrev drops : ℕ → (ℕ → Bool) → Bool
  drops n P = P n && ok (without n P)

  pub dropped_within : (k n : ℕ) (P : ℕ → Bool) → Within (dropped ok k n P) P
  dropped_within zero n P m t = t
  dropped_within (suc k) n P m t = next_within n P (drops n P) m (dropped_within k (suc n) (next n P (drops n P)) m t)

  passes : (n : ℕ) (P : ℕ → Bool) (b : Bool) → (b ≡ true → ok (without n P) ≡ true) → ok P ≡ true → ok (next n P b) ≡ true
  passes n P b e t = grind arith

  pub dropped_ok : (k n : ℕ) (P : ℕ → Bool) → ok P ≡ true → ok (dropped ok k n P) ≡ true
  dropped_ok zero n P t = t
  dropped_ok (suc k) n P t =
      dropped_ok k (suc n) (next n P (drops n P)) (passes n P (drops n P) (λ h. (and_parts (P n) (ok (without n P)) h).1) t)

  -- what stands below is not touched again
  dropped_below : (k n : ℕ) (P : ℕ → Bool) (m : ℕ) → m < n → P m ≡ true → dropped ok k n P m ≡ true
  dropped_below zero n P m h t = t
  dropped_below (suc k) n P m h t =
      dropped_below k (suc n) (next n P (drops n P)) m (omega arith) (next_keeps n P (drops n P) m (omega arith) t)

  module _ (more : (P Q : ℕ → Bool) → Within P Q → ok P ≡ true → ok Q ≡ true) where
    tight_here : (n : ℕ) (P R : ℕ → Bool) (b : Bool) → (P n ≡ true → ok (without n P) ≡ true → b ≡ true) → Within R (next n P b)
        → R n ≡ true → ok (without n R) ≡ true → ⊥
    tight_here n P R b e t h p = grind arith

    pub dropped_tight : (k n : ℕ) (P : ℕ → Bool) (m : ℕ) → n ≤ m → m < n + k → dropped ok k n P m ≡ true
        → ok (without m (dropped ok k n P)) ≡ true → ⊥
    dropped_tight zero n P m a b r t = omega arith
    dropped_tight (suc k) n P m a b r t =
        let N = next n P (drops n P) in
        let R = dropped ok k (suc n) N in
        ⊎_elim (λ (l : n < m). dropped_tight k (suc n) N m l (omega arith) r t)
        (λ (l : m ≤ n).
        let e : m ≡ n = omega arith in
        tight_here n P R (drops n P) (λ p q. and_from (P n) (ok (without n P)) p q) (dropped_within k (suc n) N)
        (subst (λ (x : ℕ). R x ≡ true) e r) (subst (λ (x : ℕ). ok (without x R) ≡ true) e t))
        (cases_lt n m)

    module _ (I : ℕ → Bool) where
      abbrev SameFrom : ℕ → (ℕ → Bool) → Type 0
      SameFrom n P = (m : ℕ) → n ≤ m → (P m ≡ true) ↔ (I m ≡ true)

      tried_low : (n : ℕ) (R : ℕ → Bool) (m : ℕ) → m < n → tried I n R m ≡ R m
      tried_low n R m h = cond-true _ _ _ (lt-ltb m n h)

      tried_high : (n : ℕ) (R : ℕ → Bool) (m : ℕ) → n ≤ m → tried I n R m ≡ without n I m
      tried_high n R m h = cond-false _ _ _ (le-ltb m n h)

      -- when n is tried, what stands is P without n
      tried_in : (k n : ℕ) (P : ℕ → Bool) → SameFrom n P → Within (tried I n (dropped ok k n P)) (without n P)
      tried_in k n P same m t =
          let R = dropped ok k n P in
          ⊎_elim
          (λ (h : m < n). let u : R m ≡ true = rw (tried_low n R m h) at t in kept_without n m P (omega arith) (dropped_within k n P m u))
          (λ (h : n ≤ m).
          let v : without n I m ≡ true = rw (tried_high n R m h) at t in
          let u = and_parts (not (eqb m n)) (I m) v in
          and_from (not (eqb m n)) (P m) u.0 ((same m h).1 u.1))
          (cases_lt m n)

      tried_out : (k n : ℕ) (P : ℕ → Bool) → SameFrom n P → Within (without n P) (tried I n (dropped ok k n P))
      tried_out k n P same m t =
          let R = dropped ok k n P in
          let u = and_parts (not (eqb m n)) (P m) t in
          ⊎_elim (λ (h : m < n). rw (tried_low n R m h) (dropped_below k n P m h u.1))
          (λ (h : n ≤ m). rw (tried_high n R m h) (and_from (not (eqb m n)) (I m) u.0 ((same m h).0 u.1)))
          (cases_lt m n)

      same_next : (n : ℕ) (P : ℕ → Bool) (b : Bool) → SameFrom n P → SameFrom (suc n) (next n P b)
      same_next n P b e = grind arith

      -- a node is left exactly where the test fails when it is tried
      left_here : (n : ℕ) (P R : ℕ → Bool) (b : Bool) → (b ≡ true → ok (without n P) ≡ true) → (P n ≡ true → ok (without n P) ≡ true → b ≡ true)
          → P n ≡ true → (next n P b n ≡ true → R n ≡ true) → Within R (next n P b) → (R n ≡ true) ↔ (ok (without n P) ≡ true → ⊥)
      left_here n P R b e t h p q = grind arith

      pub dropped_upward : (k n : ℕ) (P : ℕ → Bool) → SameFrom n P → (m : ℕ) → n ≤ m → m < n + k → I m ≡ true
          → (dropped ok k n P m ≡ true) ↔ (ok (tried I m (dropped ok k n P)) ≡ true → ⊥)
      dropped_upward zero n P same m a b t = absurd (omega arith)
      dropped_upward (suc k) n P same m a b t =
          let v = drops n P in
          let N = next n P v in
          let R = dropped ok k (suc n) N in
          ⊎_elim (λ (l : n < m). dropped_upward k (suc n) N (same_next n P v same) m l (omega arith) t)
          (λ (l : m ≤ n).
          let e : m ≡ n = omega arith in
          let here =
          left_here n P R v (λ h. (and_parts (P n) (ok (without n P)) h).1) (λ p q. and_from (P n) (ok (without n P)) p q)
          ((same n (omega arith)).1 (subst (λ (x : ℕ). I x ≡ true) e t)) (dropped_below k (suc n) N n (omega arith)) (dropped_within k (suc n) N) in
          subst⁻¹ (λ (x : ℕ). (R x ≡ true) ↔ (ok (tried I x R) ≡ true → ⊥)) e (
            λ r q. here.0 r (more (tried I n R) (without n P) (tried_in (suc k) n P same) q),
            λ fails. here.1 (λ q. fails (more (without n P) (tried I n R) (tried_out (suc k) n P same) q)),
          ))
          (cases_lt n m)
