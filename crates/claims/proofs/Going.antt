-- What a step that was answered yes keeps; on a fresh charge every step is.
use Rattle.std.proofs.Common.{◌≡◌, ℕ, suc, ◌+◌, ◌<◌, ◌≤◌, true, false, ◌⊎◌, [], ◌∷◌, ◌++◌, sym, refl, ◌∙◌, subst, inl, inr, ⊎_elim, arith}
use Rattle.std.proofs.lemmas.Bool.{cases_Bool, cases_lt}
use Rattle.isa.specs.declared.instruction.Role.TheVariants.{Save}
use Rattle.machine.specs.Process.{Steps, Steps.begin, Steps.plain, Steps.save, AfterSaves.left}
use Rattle.supply.specs.declared.answer.Answer.TheVariants.{Yes}
use Rattle.supply.specs.declared.supply.Supply.{Ghosts}
use Rattle.supply.specs.Supply.{Drawn}
use Rattle.walks.specs.Acceptance.{Accepted}
use Rattle.walks.specs.Charge.{Charged}
use Rattle.walks.specs.Graph.{ending, onward, Sound}
use Rattle.walks.specs.Walk.{Reachable, first, next, Ends}
use Rattle.walks.proofs.Charging.{charge_right}
use Rattle.walks.proofs.Steps.{steps_on}
use Rattle.walks.proofs.Walking.{way_onward}
use Rattle.claims.specs.Machine.{Machine, StepObeys, Obeys}
use Rattle.claims.specs.Rig.{Rig, Went}
use Rattle.claims.proofs.Following.{save_role, along_chain, ends_at, price_on, goes_on, after_save}
use Rattle.claims.proofs.Invariant.{Keeps, made, rebuilt, Tried, Tried.not_yet, Tried.to, Fresh, Spared, Asked, Alive, Over, Invariant, few_charges}
use Rattle.claims.proofs.Running.{counts_up}

pub one_more : {n n' asked : ℕ} → n' ≡ n + 1 → Asked asked n → Asked (suc asked) n'
one_more more (inl e) = inl (omega arith)
one_more more (inr h) = inr (omega arith)

module _ {S State : Type 0} (G : Ghosts S) (m : Machine State) (budget : ℕ) (keeps : Keeps G) (obeys : Obeys m) (accepted : Accepted m.graph budget) where
  sound : Sound m.graph
  sound = obeys.placeable.sound

  reaches : {n k : ℕ} {σ : State} → Steps m.run n k σ → m.run.ended σ ≡ false → Reachable m.graph (m.node σ)
  reaches begin goes = rw obeys.first first
  reaches (plain {n} {k} {σ} s live plain-one) goes = next (reaches s live) ((obeys.steps n k σ s live).moves goes)
  reaches (save {n} {k} {σ} s live saves) goes = next (reaches s live) ((obeys.steps n k σ s live).moves goes)

  module _ {r : Rig S State} (a : Alive G m budget r) where
    law : StepObeys m r.state
    law = obeys.steps a.q r.saves r.state a.state_run a.live

    -- what the step may draw is there beside what the walk has cost
    pub affordable : Fresh G m budget r a.way a.rises → m.amount r.kept r.state ≤ (G.four r.supply).assured
    affordable f = ⊎_elim at_ending elsewhere (cases_Bool (ending (m.graph.role (m.node r.state))))
      where
        charged : Charged m.dearest m.graph budget (m.node r.kept) a.way
        charged =
            charge_right m.dearest m.graph obeys.placeable budget accepted (m.node r.kept) a.way
            (a.starts, along_chain m.graph a.way (m.node r.kept) (m.node r.state) a.walked)

        at_ending : ending (m.graph.role (m.node r.state)) ≡ true → m.amount r.kept r.state ≤ (G.four r.supply).assured
        at_ending e = let h = law.completes r.kept e in let c = charged.paid in let b = f.room in omega arith

        elsewhere : ending (m.graph.role (m.node r.state)) ≡ false → m.amount r.kept r.state ≤ (G.four r.supply).assured
        elsewhere e =
            let unended : Ends m.graph (m.node r.kept) a.way → ⊥ =
            λ h. absurd (let z = ends_at m.graph a.way (m.node r.kept) (m.node r.state) a.walked h in cc) in
            let h = law.ends r.kept in
            let c = charged.spared unended in
            let b = f.room in
            omega arith

    -- a save comes after every try that fell before it
    reached : m.run.saves r.state ≡ true → a.far ≤ suc a.q
    reached saves = go a.tried
      where
        go : Tried m r.saves a.p a.far → a.far ≤ suc a.q
        go (not_yet h) = let b = a.on in omega arith
        go (to {q = q} s live e) =
            ⊎_elim
            (λ (h : a.q < q). absurd (let c = counts_up m.run (save a.state_run a.live saves) s (omega arith) in omega arith))
            (λ (h : q ≤ a.q). let b : a.far ≤ suc a.q = omega arith in b) (cases_lt a.q q)

    module _ {r' : Rig S State} (t : Went G m r r') where
      drawn : Drawn (G.four r.supply) (m.amount r.kept r.state) Yes (G.four r'.supply)
      drawn = keeps.drawn _ _ _ _ t.drawn

      went_on : m.run.saves r.state ≡ false → m.run.ended (m.run.step r.state) ≡ false → Alive G m budget r'
      went_on s e =
          subst (Alive G m budget) (rebuilt r' _ _ _ _ _ _ t.state_is kept_same t.before_is saves_same t.cuts_is t.attempts_is)
          (record {
            p = a.p;
            q = suc a.q;
            kept_run = a.kept_run;
            state_run = plain a.state_run a.live s;
            on = let h = a.on in omega arith;
            kept_live = a.kept_live;
            live = e;
            after = a.after;
            held = let h = a.held in let b = drawn.budget_same in omega arith;
            starts = a.starts;
            way = a.way ++ there ∷ [];
            walked = steps_on (onward m.graph) a.way (there ∷ []) (m.node r.kept) (m.node r.state) there a.walked
                (way_onward m.graph (m.node r.state) there (goes_on m.graph sound (m.node r.state) there (sym law.saves ∙ s) (law.moves e)) (law.moves e), refl);
            rises = a.rises;
            counted = drawn.charges_same ∙ a.counted;
            far = a.far;
            tried = a.tried;
            uncut = λ z. let b = a.uncut z in omega arith;
            charge = charge a.charge;
          })
        where
          there : ℕ
          there = m.node (m.run.step r.state)

          untold : m.saves r.state ≡ false
          untold = law.tells ∙ s

          kept_same : r'.kept ≡ r.kept
          kept_same = simp (untold, e) at t.kept_is

          saves_same : r'.saves ≡ r.saves
          saves_same = simp untold at t.saves_is

          charge : Fresh G m budget r a.way a.rises ⊎ Spared r a.p a.rises a.far
              → Fresh G m budget (made r'.supply (m.run.step r.state) r.kept r.before r.saves r.cuts (r.attempts + 1)) (a.way ++ there ∷ []) a.rises
              ⊎ Spared (made r'.supply (m.run.step r.state) r.kept r.before r.saves r.cuts (r.attempts + 1)) a.p a.rises a.far
          charge (inl f) =
              let b = drawn.assured_falls (affordable f) in
              let c = price_on m.graph a.way (m.node r.kept) there in
              let d = law.spends r.kept e in
              let h = f.room in
              inl (record { few = f.few; room = omega arith })
          charge (inr f) = inr (record { few = f.few; unfallen = f.unfallen })

      went_save : m.run.saves r.state ≡ true → Alive G m budget r'
      went_save s =
          subst (Alive G m budget) (rebuilt r' _ _ _ _ _ _ t.state_is kept_same t.before_is saves_same t.cuts_is t.attempts_is)
          (record {
            p = suc a.q;
            q = suc a.q;
            kept_run = run;
            state_run = run;
            on = omega arith;
            kept_live = goes;
            live = goes;
            after = left a.state_run a.live s;
            held = let h = a.held in let b = drawn.budget_same in omega arith;
            starts = inr (m.node r.state, reaches a.state_run a.live, role, after_save m.graph sound (m.node r.state) there role (law.moves goes));
            way = [];
            walked = refl;
            rises = a.rises;
            counted = drawn.charges_same ∙ a.counted;
            far = suc a.q;
            tried = not_yet (omega arith);
            uncut = λ z. let b = a.uncut z in let c = reached s in omega arith;
            charge = inr (record { few = let h = few_charges G m budget a.charge in omega arith; unfallen = refl });
          })
        where
          there : ℕ
          there = m.node (m.run.step r.state)

          goes : m.run.ended (m.run.step r.state) ≡ false
          goes = law.goes s

          role : m.graph.role (m.node r.state) ≡ Save
          role = save_role (m.graph.role (m.node r.state)) (sym law.saves ∙ s)

          run : Steps m.run (suc a.q) (suc r.saves) (m.run.step r.state)
          run = save a.state_run a.live s

          told : m.saves r.state ≡ true
          told = law.tells ∙ s

          kept_same : r'.kept ≡ m.run.step r.state
          kept_same = simp told at t.kept_is

          saves_same : r'.saves ≡ suc r.saves
          saves_same = let e : r'.saves ≡ r.saves + 1 = simp told at t.saves_is in omega arith

      went_out : m.run.saves r.state ≡ false → m.run.ended (m.run.step r.state) ≡ true → Over G m r'
      went_out s e =
          subst (Over G m) (rebuilt r' _ _ _ _ _ _ t.state_is kept_same t.before_is saves_same t.cuts_is t.attempts_is)
          (record {
            n = suc a.q;
            run = plain a.state_run a.live s;
            ends = e;
            rises = a.rises;
            counted = drawn.charges_same ∙ a.counted;
            few = few_charges G m budget a.charge;
          })
        where
          untold : m.saves r.state ≡ false
          untold = law.tells ∙ s

          kept_same : r'.kept ≡ m.run.step r.state
          kept_same = simp (untold, e) at t.kept_is

          saves_same : r'.saves ≡ r.saves
          saves_same = simp untold at t.saves_is

      pub went_either : {asked : ℕ} → Asked asked r.attempts → Invariant G m budget (suc asked) r'
      went_either asks =
          let more = one_more t.attempts_is asks in
          ⊎_elim (λ s. inl (went_save s, more))
          (λ s. ⊎_elim (λ e. inr (went_out s e)) (λ e. inl (went_on s e, more)) (cases_Bool (m.run.ended (m.run.step r.state))))
          (cases_Bool (m.run.saves r.state))
