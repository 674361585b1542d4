-- What the computed run means: its steps are steps of the process, and it stops at the ending.
use Rattle.std.proofs.Common.{◌≡◌, ℕ, zero, suc, ◌+◌, ◌<◌, ◌≤◌, true, false, List, sym, ap, ◌∙◌, subst, ⊎_elim, add-one, arith}
use Rattle.std.proofs.lemmas.Bool.{cases_Bool, cases_eq, cond-true, cond-false}
use Rattle.machine.specs.declared.state.State.{State}
use Rattle.machine.specs.declared.run.Run.{Run}
use Rattle.machine.specs.Process.{Steps, Steps.begin, Steps.plain, Steps.save}
use Rattle.machine.specs.State.{ended}
use Rattle.machine.specs.Step.{saves_at, mains_step}
use Rattle.machine.specs.Run.{mains, onward, run_of, Reached}

module _ (image tape : List ℕ) where
  abbrev at : State → ℕ → Run
  at σ n = record { state = σ; steps = n }

  -- a turn of the loop
  pub goes_on : (σ τ : State) (n : ℕ) → at σ n ≡ run_of image tape n → ended σ ≡ false → τ ≡ mains_step image tape σ
      → at τ (n + 1) ≡ run_of image tape (n + 1)
  goes_on σ τ n here goes is =
      ap (λ s. at s (n + 1)) is ∙ sym (cond-false _ _ _ goes) ∙ ap (onward image tape) here ∙ ap (run_of image tape) (sym (add-one n))

  -- an ended run takes no further step
  pub stays : (n m : ℕ) → n ≤ m → ended (run_of image tape n).state ≡ true → run_of image tape m ≡ run_of image tape n
  stays n zero h over = let e : 0 ≡ n = omega arith in ap (run_of image tape) e
  stays n (suc m) h over =
      ⊎_elim (λ (e : suc m ≡ n). ap (run_of image tape) e)
      (λ (ne : suc m ≡ n → ⊥).
      let before = stays n m (omega arith) over in
      ap (onward image tape) before ∙ cond-true _ _ _ over)
      (cases_eq (suc m) n)

  led_on : (n : ℕ) (σ : State) → ((k : ℕ) × Steps (mains image tape) n k σ) → ended σ ≡ false
      → (k : ℕ) × Steps (mains image tape) (n + 1) k (mains_step image tape σ)
  led_on n σ (k, s) goes =
      ⊎_elim
      (λ (saves : saves_at image σ ≡ true).
      (suc k, subst (λ (i : ℕ). Steps (mains image tape) i (suc k) (mains_step image tape σ)) (sym (add-one n)) (save s goes saves)))
      (λ (saves : saves_at image σ ≡ false).
      (k, subst (λ (i : ℕ). Steps (mains image tape) i k (mains_step image tape σ)) (sym (add-one n)) (plain s goes saves)))
      (cases_Bool (saves_at image σ))

  on : (n : ℕ) (r : Run) → Reached image tape n r → Reached image tape (suc n) (onward image tape r)
  on n r so_far =
      ⊎_elim
      (λ (over : ended r.state ≡ true).
      subst (λ (q : Run). Reached image tape (suc n) q) (sym (cond-true _ _ _ over))
      (record { led = so_far.led; within = let w = so_far.within in omega arith; stopped = λ _. over }))
      (λ (goes : ended r.state ≡ false).
      let stopped : r.steps + 1 < suc n → ended (mains_step image tape r.state) ≡ true =
      λ h. let over = so_far.stopped (omega arith) in cc in
      subst (λ (q : Run). Reached image tape (suc n) q) (sym (cond-false _ _ _ goes))
      (record {
        led = led_on r.steps r.state so_far.led goes;
        within = let w = so_far.within in omega arith;
        stopped = stopped;
      }))
      (cases_Bool (ended r.state))

  pub reached : (n : ℕ) → Reached image tape n (run_of image tape n)
  reached zero = record { led = (0, begin); within = omega arith; stopped = λ h. absurd (omega arith) }
  reached (suc n) = on n (run_of image tape n) (reached n)

  -- a run that was computed was reached
  pub meant : (n : ℕ) (r : Run) → r ≡ run_of image tape n → Reached image tape n r
  meant n r e = subst (λ (q : Run). Reached image tape n q) (sym e) (reached n)
