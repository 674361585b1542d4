-- Two runs of one process: the longer one has no fewer saves, and none goes past the end.
use Rattle.std.proofs.Common.{◌≡◌, ℕ, suc, ◌<◌, ◌≤◌, true, false, ap, subst, ⊎_elim, arith}
use Rattle.std.proofs.lemmas.Bool.{cases_eq}
use Rattle.machine.specs.Process.{Process, Steps, Steps.begin, Steps.plain, Steps.save, EndsAfter}
use Rattle.machine.proofs.Processes.{deterministic}

module _ {S : Type 0} (p : Process S) where
  same : {n n' k k' : ℕ} {σ τ : S} → n ≡ n' → Steps p n k σ → Steps p n' k' τ → (k ≡ k') × (σ ≡ τ)
  same {n} {n'} {k} {k'} {σ} {τ} e s t =
      (deterministic p).one_state n' k k' σ τ (subst (λ (i : ℕ). Steps p i k σ) e s) t

  pub counts_up : {n n' k k' : ℕ} {σ τ : S} → Steps p n k σ → Steps p n' k' τ → n ≤ n' → k ≤ k'
  counts_up s begin h = let e = (same (omega arith) s begin).0 in omega arith
  counts_up {n} {k = k} s (plain {n = i} {k = j} t goes plain-one) h =
      ⊎_elim (λ (e : n ≡ suc i). let q = (same e s (plain t goes plain-one)).0 in let r : k ≤ j = omega arith in r)
      (λ (ne : n ≡ suc i → ⊥). counts_up s t (omega arith)) (cases_eq n (suc i))
  counts_up {n} {k = k} s (save {n = i} {k = j} t goes saves) h =
      ⊎_elim (λ (e : n ≡ suc i). let q = (same e s (save t goes saves)).0 in let r : k ≤ suc j = omega arith in r)
      (λ (ne : n ≡ suc i → ⊥). let q = counts_up s t (omega arith) in let r : k ≤ suc j = omega arith in r) (cases_eq n (suc i))

  -- a state of the run that has not ended comes before the end
  before_live : {n i k k' : ℕ} {σ τ : S} → Steps p n k σ → p.ended σ ≡ true → Steps p i k' τ → p.ended τ ≡ false → i ≤ n → i < n
  before_live {n} {i} s over t goes h =
      ⊎_elim (λ (e : n ≡ i). absurd (let q = ap p.ended (same e s t).1 in cc)) (λ (ne : n ≡ i → ⊥). omega arith) (cases_eq n i)

  within : {n i k k' : ℕ} {σ τ : S} → Steps p n k σ → p.ended σ ≡ true → Steps p i k' τ → i ≤ n
  within s over begin = omega arith
  within s over (plain t goes plain-one) = let h = before_live s over t goes (within s over t) in omega arith
  within s over (save t goes saves) = let h = before_live s over t goes (within s over t) in omega arith

  pub before_end : {n i k : ℕ} {σ τ : S} → EndsAfter p n σ → Steps p i k τ → p.ended τ ≡ false → i < n
  before_end e t goes = before_live e.1 e.2 t goes (within e.1 e.2 t)
