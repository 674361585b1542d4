-- A process is deterministic: after n steps it stands where n steps computed in a row lead.
use Rattle.std.proofs.Common.{◌≡◌, ℕ, zero, suc, ◌<◌, ◌≤◌, Bool, true, false, cond, ◌⊎◌, sym, refl, ap, ◌∙◌, subst, inl, inr, ⊎_elim, arith, below_more}
use Rattle.std.proofs.lemmas.Bool.{cases_eq, cases_lt, cond-true, cond-false}
use Rattle.machine.specs.Process.{Process, Steps, Steps.begin, Steps.plain, Steps.save, AfterSaves, AfterSaves.none, AfterSaves.left, Deterministic}

module _ {S : Type 0} (p : Process S) where
  -- the state after n steps, and how many of them were saves
  abbrev at : ℕ → S
  at zero = p.start
  at (suc n) = p.step (at n)

  abbrev counted : ℕ → ℕ
  counted zero = 0
  counted (suc n) = cond (p.saves (at n)) (suc (counted n)) (counted n)

  is_at : {n k : ℕ} {σ : S} → Steps p n k σ → (k ≡ counted n) × (σ ≡ at n)
  is_at begin = (refl, refl)
  is_at (plain s goes not_save) =
      let e = is_at s in
      (e.0 ∙ sym (cond-false _ _ _ (ap p.saves (sym e.1) ∙ not_save)), ap p.step e.1)
  is_at (save s goes saves) =
      let e = is_at s in
      (ap suc e.0 ∙ sym (cond-true _ _ _ (ap p.saves (sym e.1) ∙ saves)), ap p.step e.1)

  goes_before : {n k : ℕ} {σ : S} → Steps p n k σ → (m : ℕ) → m < n → p.ended (at m) ≡ false
  goes_before begin m h = absurd (omega arith)
  goes_before (plain {n} s goes not_save) m h =
      below_more (λ i. p.ended (at i) ≡ false) n (goes_before s) (ap p.ended (sym (is_at s).1) ∙ goes) m (omega arith)
  goes_before (save {n} s goes saves) m h =
      below_more (λ i. p.ended (at i) ≡ false) n (goes_before s) (ap p.ended (sym (is_at s).1) ∙ goes) m (omega arith)

  -- a process that has ended takes no further step
  no_later_end : (n n' k' : ℕ) (σ' : S) → p.ended (at n) ≡ true → Steps p n' k' σ' → n < n' → ⊥
  no_later_end n n' k' σ' over s h =
      let goes = goes_before s n h in cc

  counts_on : (b : Bool) (k : ℕ) → k ≤ cond b (suc k) k
  counts_on true k = omega arith
  counts_on false k = omega arith

  counts_up : (n m : ℕ) → n ≤ m → counted n ≤ counted m
  counts_up n zero h = let e : n ≡ 0 = omega arith in subst (λ (i : ℕ). counted i ≤ 0) (sym e) (omega arith)
  counts_up n (suc m) h =
      ⊎_elim (λ (e : n ≡ suc m). subst (λ (i : ℕ). counted i ≤ counted (suc m)) (sym e) (omega arith))
      (λ (ne : n ≡ suc m → ⊥).
      let before = counts_up n m (omega arith) in let on = counts_on (p.saves (at m)) (counted m) in omega arith)
      (cases_eq n (suc m))

  -- the number of the step that was the k-th save
  After : ℕ → S → Type 0
  After k σ = ((k ≡ 0) × (σ ≡ p.start)) ⊎ ((n : ℕ) × (k ≡ suc (counted n)) × (k ≡ counted (suc n)) × (σ ≡ at (suc n)))

  after_at : {k : ℕ} {σ : S} → AfterSaves p k σ → After k σ
  unfolding After
  after_at none = inl (refl, refl)
  after_at (left {n} {k} s goes saves) =
      let e = is_at s in
      inr (n, ap suc e.0, (is_at (save s goes saves)).0, ap p.step e.1)

  one_after : (k : ℕ) (σ σ' : S) → After k σ → After k σ' → σ ≡ σ'
  unfolding After
  one_after k σ σ' (inl a) (inl b) = a.1 ∙ sym b.1
  one_after k σ σ' (inl a) (inr b) = absurd (omega (arith, a.0, b.1))
  one_after k σ σ' (inr a) (inl b) = absurd (omega (arith, a.1, b.0))
  one_after k σ σ' (inr (n, before, with, is)) (inr (n', before', with', is')) =
      ⊎_elim (λ (e : n ≡ n'). is ∙ ap (λ i. at (suc i)) e ∙ sym is')
      (λ (ne : n ≡ n' → ⊥).
      ⊎_elim (λ (h : n < n'). let up = counts_up (suc n) n' (omega arith) in absurd (omega arith))
      (λ (h : n' ≤ n). let up = counts_up (suc n') n (omega arith) in absurd (omega arith)) (cases_lt n n'))
      (cases_eq n n')

  pub deterministic : Deterministic p
  deterministic = record {
    one_state = λ n k k' σ σ' s s'.
        let e = is_at s in let e' = is_at s' in (e.0 ∙ sym e'.0, e.1 ∙ sym e'.1);
    one_after_saves = λ k σ σ' a a'. one_after k σ σ' (after_at a) (after_at a');
    one_end = λ n n' σ σ' e e'.
        let at_n = (is_at e.1).1 in
        let at-n' = (is_at e'.1).1 in
        let over = ap p.ended (sym at_n) ∙ e.2 in
        let over' = ap p.ended (sym at-n') ∙ e'.2 in
        ⊎_elim (λ (same : n ≡ n'). (same, at_n ∙ ap at same ∙ sym at-n'))
        (λ (ne : n ≡ n' → ⊥).
        ⊎_elim (λ (h : n < n'). absurd (no_later_end n n' _ σ' over e'.1 h))
        (λ (h : n' ≤ n). absurd (no_later_end n' n _ σ over' e.1 (omega arith))) (cases_lt n n'))
        (cases_eq n n');
  }
