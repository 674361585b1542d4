-- The run claims follow from what every history of a rig keeps.
use Rattle.std.proofs.Common.{◌≡◌, ℕ, ◌+◌, ◌-◌, ◌*◌, ◌%◌, ◌^◌, ◌<◌, ◌≤◌, List, [], ◌∷◌, ◌++◌, refl, inl, inr, arith}
use Rattle.machine.specs.Process.{EndsAfter}
use Rattle.machine.proofs.Processes.{deterministic}
use Rattle.supply.specs.declared.supply.Supply.{Ghosts}
use Rattle.walks.specs.Acceptance.{Accepted}
use Rattle.claims.specs.declared.call.Call.{Call}
use Rattle.claims.specs.declared.call.Call.TheVariants as call
use Rattle.claims.specs.declared.reply.Reply.{Reply}
use Rattle.claims.specs.Claims.{Claims, Claimed, MachineClaims, RunClaims}
use Rattle.claims.specs.History.{Called, History, History.begun_on, History.called, steps_of, steps_in, Always}
use Rattle.claims.specs.Machine.{Machine, Obeys}
use Rattle.claims.specs.Rig.{Rig}
use Rattle.claims.specs.Round.{round_of}
use Rattle.claims.proofs.Invariant.{Keeps, Tried, Tried.not_yet, Tried.to, Asked, Alive, Invariant, few_charges}
use Rattle.claims.proofs.Keeping.{stepped, cut, begun}
use Rattle.claims.proofs.Rounding.{round_obeys}
use Rattle.claims.proofs.Running.{before_end}

rise : (c b n : ℕ) → c ≡ (b + n) % 2 ^ 64 → (c + (2 ^ 64 - b % 2 ^ 64)) % 2 ^ 64 ≤ n
rise c b n e = omega arith

steps_on : (cs : List Call) (c : Call) → steps_in (cs ++ c ∷ []) ≡ steps_of c + steps_in cs
steps_on [] c = refl
steps_on (x ∷ cs) c = let e = steps_on cs c in omega arith

module _ {S State : Type 0} (G : Ghosts S) (keeps : Keeps G) (m : Machine State) (obeys : Obeys m) (budget : ℕ) (accepted : Accepted m.graph budget) where
  counted : {n asked : ℕ} {r : Rig S State} → n ≡ asked → Invariant G m budget n r → Invariant G m budget asked r
  counted e v = rw e at v

  unchanged : {asked : ℕ} {r r' : Rig S State} → Invariant G m budget asked r → r' ≡ r → Invariant G m budget (0 + asked) r'
  unchanged {asked} v e = counted {n = asked} (omega arith) (rw e v)

  called_keeps : (c : Call) (a : Reply) (r' : Rig S State) {asked : ℕ} {r : Rig S State} → Invariant G m budget asked r → Called G m c r a r'
      → Invariant G m budget (steps_of c + asked) r'
  called_keeps call.Step a r' v (x, e, t) = counted (omega arith) (stepped G m budget keeps obeys accepted v t)
  called_keeps call.Cut a r' v (x, e, t) = counted (omega arith) (cut G m budget keeps obeys accepted v t)
  called_keeps call.Charges a r' v (e, t) = unchanged v t
  called_keeps call.Saves a r' v (e, t) = unchanged v t
  called_keeps call.Cuts a r' v (e, t) = unchanged v t
  called_keeps call.Attempts a r' v (e, t) = unchanged v t
  called_keeps (call.Record i) a r' v (e, t) = unchanged v t

  kept : {s : S} {cs : List Call} {replies : List Reply} {r : Rig S State} → budget ≤ (G.four s).budget → History G m s cs replies r
      → Invariant G m budget (steps_in cs) r
  kept h (begun_on b) = begun G m budget keeps obeys accepted h b
  kept h (called {cs = cs} {r' = r'} c a past d) =
      rw (steps_on cs c) (called_keeps c a r' (kept h past) d)

  -- an uncut rig that has not ended was not asked for twice the steps of the run
  short : {asked : ℕ} {r : Rig S State} → Alive G m budget r → Asked asked r.attempts → (n : ℕ) (σ : State) → EndsAfter m.run n σ → n ≤ 500000 → r.cuts ≡ 0 → asked < 2 * n
  short {asked} {r} a asks n σ e h uncut =
      let q = before_end m.run e a.state_run a.live in
      let p = before_end m.run e a.kept_run a.kept_live in
      let f : a.far ≤ n = fallen a.tried p in
      let b = a.uncut uncut in
      below asks (omega arith)
    where
      fallen : Tried m r.saves a.p a.far → a.p < n → a.far ≤ n
      fallen (not_yet l) p = omega arith
      fallen (to s live i) p = let l = before_end m.run e s live in omega arith

      below : Asked asked r.attempts → r.attempts < 2 * n → asked < 2 * n
      below (inl i) l = omega arith
      below (inr i) l = absurd (omega arith)

  claims : (cs : List Call) {r : Rig S State} → Invariant G m budget (steps_in cs) r → Claims G m cs r
  claims cs {r} (inl (a, asks)) =
      record {
        charges = let b = rise (G.four r.supply).charges r.before a.rises a.counted in
            let c = few_charges G m budget a.charge in
            omega arith;
        same = λ e. a.after;
        end = λ e. absurd (let z = a.kept_live in cc);
        ends = λ n σ e h uncut enough. absurd (let z = short a asks n σ e h uncut in omega arith);
      }
  claims cs {r} (inr v) =
      record {
        charges = let b = rise (G.four r.supply).charges r.before v.rises v.counted in
            let c = v.few in
            omega arith;
        same = λ e. absurd (let z = v.ends in cc);
        end = λ e. (v.n, (r.saves, v.run, v.ends));
        ends = λ n σ e h uncut enough.
            ((deterministic m.run).one_end v.n n r.kept σ (r.saves, v.run, v.ends) e).1;
      }

  always : {s : S} {cs : List Call} {replies : List Reply} {r : Rig S State} → budget ≤ (G.four s).budget → (h : History G m s cs replies r)
      → Always (Claims G m) h
  always b (begun_on t) = claims [] (kept b (begun_on t))
  always b (called {cs = cs} c a h d) = (always b h, claims (cs ++ c ∷ []) (kept b (called c a h d)))

  pub claimed : Claimed G m budget
  claimed s b cs replies r h = always b h

pub machine_claims : {S : Type 0} (G : Ghosts S) → Keeps G → MachineClaims G
machine_claims G keeps m obeys budget accepted = claimed G keeps m obeys budget accepted

pub run_claims : {S : Type 0} (G : Ghosts S) → Keeps G → RunClaims G
run_claims G keeps d bounded image tape lawful budget accepted =
    claimed G keeps (round_of d image tape) (round_obeys d bounded image tape lawful) budget accepted
