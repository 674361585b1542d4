-- The calls of a rig leave it whole, so that the next call takes it.
use Rattle.std.proofs.Common.{◌≡◌, ℕ, ◌+◌, ◌≤◌, Bool, true, false, if◌then◌else◌, List, Result, sym, subst, ⊎_elim, arith}
use Rattle.std.proofs.lemmas.Grind.{common_steps}
use Rattle.std.proofs.lemmas.Bool.{cases_Bool}
use Rattle.isa.specs.declared.refusal.Refusal.{Refusal}
use Rattle.machine.specs.declared.ending.Ending.{Ending}
use Rattle.machine.specs.declared.ending.Ending.TheVariants as ending
use Rattle.machine.specs.declared.ending.Trap.TheVariants.{BadSlot, OutsideMemory, TapeFinished, LogFull}
use Rattle.machine.specs.declared.state.State.{State}
use Rattle.machine.specs.State.{initial, ended, ended_by}
use Rattle.machine.specs.Step.{mains_step}
use Rattle.machine.proofs.Stepping.{stepped}
use Rattle.pricing.specs.Model.{Model}
use Rattle.supply.specs.declared.source.Source.{Source}
use Rattle.claims.specs.declared.call.Call.{Call}
use Rattle.claims.specs.declared.call.Call.TheVariants as call
use Rattle.claims.specs.declared.reply.Attempt.{Attempt}
use Rattle.claims.specs.declared.reply.Reply.{Reply}
use Rattle.claims.specs.History.{Called, History, History.begun_on, History.called}
use Rattle.claims.specs.Rig.{Rig, Begun, Stepped, Stepped.refused_ended, Stepped.refused_attempts, Stepped.went, Stepped.fell, CutDone, CutDone.refused_ended as cut_refused_ended, CutDone.refused_cuts, CutDone.done}
use Rattle.claims.specs.Round.{round_of}
use Rattle.yatesorrel_c.specs.Held.{sources, Whole}
use Rattle.yatesorrel_c.specs.State.{Known}

known_ending : (σ : State) (e : Ending) → Known (ended_by σ e)
known_ending σ (ending.Trap BadSlot) = omega arith
known_ending σ (ending.Trap OutsideMemory) = omega arith
known_ending σ (ending.Trap TapeFinished) = omega arith
known_ending σ (ending.Trap LogFull) = omega arith
known_ending σ ending.Exit = omega arith

known_going : (σ : State) → ended σ ≡ false → Known σ
known_going σ goes = grind (arith, common_steps)

pub known_step : (image tape : List ℕ) (σ : State) → Known σ → Known (mains_step image tape σ)
known_step image tape σ known =
    let laws = stepped image tape σ in
    let after : ended σ ≡ false → Known (mains_step image tape σ) =
    λ goes. ⊎_elim
    (λ (over : ended (mains_step image tape σ) ≡ true). let p = laws.ends goes over in subst Known (sym p.1) (known_ending σ p.0))
    (known_going (mains_step image tape σ))
    (cases_Bool (ended (mains_step image tape σ))) in
    ⊎_elim (λ (over : ended σ ≡ true). subst Known (sym (laws.stays over)) known) after (cases_Bool (ended σ))

known_either : (b : Bool) (σ τ : State) → Known σ → Known τ → Known (if b then σ else τ)
known_either true σ τ s t = s
known_either false σ τ s t = t

few_either : (b : Bool) (n k : ℕ) → n ≤ k → (if b then n + 1 else n) ≤ k + 1
few_either true n k e = omega arith
few_either false n k e = omega arith

module _ (m : Model) (image tape : List ℕ) where
  pub stepped_whole : (r r' : Rig Source State) (a : Result Attempt Refusal) → Whole r → Stepped sources (round_of m image tape) r a r' → Whole r'
  stepped_whole r r' a w (refused_ended _ _ e) = subst Whole (sym e) w
  stepped_whole r r' a w (refused_attempts _ _ _ e) = subst Whole (sym e) w
  stepped_whole r r' a w (went _ _ _ d) =
      let next = known_step image tape r.state w.state in
      record {
        few = rw (d.saves_is, d.attempts_is) (few_either _ r.saves r.attempts w.few);
        state = rw d.state_is next;
        kept = rw d.kept_is (known_either _ _ _ next w.kept);
      }
  stepped_whole r r' a w (fell _ _ _ d) =
      let f = w.few in
      let s = d.back.saves_is in
      let t = d.back.attempts_is in
      record { few = omega arith; state = rw d.back.state_is w.kept; kept = rw d.back.kept_is w.kept }

pub cut_whole : (r r' : Rig Source State) (a : Result (Unit {0}) Refusal) → Whole r → CutDone sources ended r a r' → Whole r'
cut_whole r r' a w (cut_refused_ended _ _ e) = subst Whole (sym e) w
cut_whole r r' a w (refused_cuts _ _ _ e) = subst Whole (sym e) w
cut_whole r r' a w (done _ _ _ d) =
    let f = w.few in
    let s = d.saves_is in
    let t = d.attempts_is in
    record { few = omega arith; state = rw d.state_is w.kept; kept = rw d.kept_is w.kept }

pub begun_whole : (s : Source) (r : Rig Source State) → Begun sources initial s r → Whole r
begun_whole s r b =
    let s = b.saves_is in
    record { few = omega arith; state = rw b.state_is (omega arith); kept = rw b.kept_is (omega arith) }

module _ (m : Model) (image tape : List ℕ) where
  called_whole : (c : Call) (r r' : Rig Source State) (a : Reply) → Whole r → Called sources (round_of m image tape) c r a r' → Whole r'
  called_whole call.Step r r' a w d = stepped_whole m image tape r r' d.0 w d.2
  called_whole call.Cut r r' a w d = cut_whole r r' d.0 w d.2
  called_whole call.Charges r r' a w d = subst Whole (sym d.1) w
  called_whole call.Saves r r' a w d = subst Whole (sym d.1) w
  called_whole call.Cuts r r' a w d = subst Whole (sym d.1) w
  called_whole call.Attempts r r' a w d = subst Whole (sym d.1) w
  called_whole (call.Record i) r r' a w d = subst Whole (sym d.1) w

  pub rehearsed_whole : {s : Source} {cs : List Call} {replies : List Reply} {r : Rig Source State} → History sources (round_of m image tape) s cs replies r → Whole r
  rehearsed_whole {s = s} {r = r} (begun_on b) = begun_whole s r b
  rehearsed_whole {r = r'} (called {r = r} c a past d) = called_whole c r r' a (rehearsed_whole past) d
