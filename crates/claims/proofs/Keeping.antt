-- Every call keeps what holds of a rig.
use Rattle.std.proofs.Common.{◌≡◌, ℕ, suc, ◌+◌, ◌≤◌, Bool, true, false, ◌⊎◌, [], Result, refl, subst, inl, inr, arith}
use Rattle.isa.specs.declared.refusal.Refusal.{Refusal}
use Rattle.machine.specs.Process.{Steps.begin, AfterSaves.none}
use Rattle.supply.specs.declared.answer.Answer.TheVariants.{No}
use Rattle.supply.specs.declared.supply.Supply.{Ghosts}
use Rattle.supply.specs.Supply.{Drawn, Recharged}
use Rattle.walks.specs.Acceptance.{Accepted}
use Rattle.claims.specs.declared.reply.Attempt.{Attempt}
use Rattle.claims.specs.Machine.{Machine, Obeys}
use Rattle.claims.specs.Rig.{Rig, Begun, FellBack, Fell, WasCut, Stepped, CutDone}
use Rattle.claims.proofs.Invariant.{Keeps, rebuilt, Tried, Tried.not_yet, Tried.to, Fresh, Spared, Alive, Invariant, few_charges}
use Rattle.claims.proofs.Going.{affordable, went_either, one_more}

module _ {S State : Type 0} (G : Ghosts S) (m : Machine State) (budget : ℕ) (keeps : Keeps G) (obeys : Obeys m) (accepted : Accepted m.graph budget) where
  module _ {r : Rig S State} (a : Alive G m budget r) where
    -- a charge begins at the kept state, of a rig that is r but for its supply, cuts and attempts
    returned : {s : S} {c n : ℕ} {r' : Rig S State} → FellBack G (record r { supply = s; cuts = c; attempts = n }) r'
        → budget ≤ (G.four s).budget → (G.four s).charges ≡ (G.four r.supply).charges → a.rises ≤ r.saves + c
        → (far : ℕ) → Tried m r.saves a.p far → (c ≡ 0 → n ≤ far + a.p) → Alive G m budget r'
    returned {s} {r' = r'} t held same few far tried uncut =
        subst (Alive G m budget) (rebuilt r' _ _ _ _ _ _ t.state_is t.kept_is t.before_is t.saves_is t.cuts_is t.attempts_is)
        (record {
          p = a.p;
          q = a.p;
          kept_run = a.kept_run;
          state_run = a.kept_run;
          on = omega arith;
          kept_live = a.kept_live;
          live = a.kept_live;
          after = a.after;
          held = let c = charged.budget_same in omega arith;
          starts = a.starts;
          way = [];
          walked = refl;
          rises = suc a.rises;
          counted = let h = a.counted in let c = charged.charges_rise in omega arith;
          far = far;
          tried = tried;
          uncut = uncut;
          charge = inl (record { few = omega arith; room = let c = charged.assured_full in omega arith });
        })
      where
        charged : Recharged (G.four s) (G.four r'.supply)
        charged = keeps.recharged _ _ t.charged

    fell_back : {r' : Rig S State} → Fell G m r r' → Alive G m budget r'
    fell_back {r'} t = go a.charge
      where
        drawn : Drawn (G.four r.supply) (m.amount r.kept r.state) No (G.four t.emptied)
        drawn = keeps.drawn _ _ _ _ t.drawn

        go : Fresh G m budget r a.way a.rises ⊎ Spared r a.p a.rises a.far → Alive G m budget r'
        go (inl f) = absurd (let z = drawn.assured_yes (affordable G m budget keeps obeys accepted a f) in cc)
        go (inr f) =
            returned t.back (let h = a.held in let b = drawn.budget_same in omega arith) drawn.charges_same f.few (suc a.q)
            (to a.state_run a.live refl) (λ z. let b = a.uncut z in let y = f.unfallen in omega arith)

    was_cut : {r' : Rig S State} → WasCut G r r' → Alive G m budget r'
    was_cut t =
        returned t a.held refl (let h = few_charges G m budget a.charge in omega arith) a.p (not_yet (omega arith))
        (λ z. absurd (omega arith))

  both : {A : Type 0} {b : Bool} → b ≡ true → b ≡ false → A
  both e f = absurd cc

  pub stepped : {asked : ℕ} {r r' : Rig S State} {x : Result Attempt Refusal} → Invariant G m budget asked r → Stepped G m r x r' → Invariant G m budget (suc asked) r'
  stepped (inl a) (Stepped.refused_ended over x e) = both over a.0.kept_live
  stepped {asked} (inl a) (Stepped.refused_attempts goes h x e) = rw e (inl (a.0, inr h))
  stepped (inl a) (Stepped.went goes h x t) = went_either G m budget keeps obeys accepted a.0 t a.1
  stepped (inl a) (Stepped.fell goes h x t) = inl (fell_back a.0 t, one_more t.back.attempts_is a.1)
  stepped (inr v) (Stepped.refused_ended over x e) = inr (rw e v)
  stepped (inr v) (Stepped.refused_attempts goes h x e) = both v.ends goes
  stepped (inr v) (Stepped.went goes h x t) = both v.ends goes
  stepped (inr v) (Stepped.fell goes h x t) = both v.ends goes

  pub cut : {asked : ℕ} {r r' : Rig S State} {x : Result (Unit {0}) Refusal} → Invariant G m budget asked r → CutDone G m.run.ended r x r' → Invariant G m budget asked r'
  cut (inl a) (CutDone.refused_ended over x e) = both over a.0.kept_live
  cut {asked} (inl a) (CutDone.refused_cuts goes h x e) = rw e (inl a)
  cut {asked} (inl a) (CutDone.done goes h x t) = inl (was_cut a.0 t, rw t.attempts_is a.1)
  cut (inr v) (CutDone.refused_ended over x e) = inr (rw e v)
  cut (inr v) (CutDone.refused_cuts goes h x e) = both v.ends goes
  cut (inr v) (CutDone.done goes h x t) = both v.ends goes

  pub begun : {s : S} {r : Rig S State} → budget ≤ (G.four s).budget → Begun G m.run.start s r → Invariant G m budget 0 r
  begun {s} {r} h t =
      inl (
        subst (Alive G m budget) (rebuilt r _ _ _ _ _ _ t.state_is t.kept_is t.before_is t.saves_is t.cuts_is t.attempts_is)
            (record {
              p = 0;
              q = 0;
              kept_run = begin;
              state_run = begin;
              on = omega arith;
              kept_live = obeys.begins;
              live = obeys.begins;
              after = none;
              held = let c = charged.budget_same in omega arith;
              starts = inl obeys.first;
              way = [];
              walked = refl;
              rises = 1;
              counted = charged.charges_rise;
              far = 0;
              tried = not_yet (omega arith);
              uncut = λ z. omega arith;
              charge = inl (record { few = omega arith; room = let c = charged.assured_full in omega arith });
            }),
        inl t.attempts_is,
      )
    where
      charged : Recharged (G.four s) (G.four r.supply)
      charged = keeps.recharged _ _ t.charged
