-- The course of a rig on a capacitor is settled by its calls.
--     Bare               a rig of whose capacitor the condition alone is told
--     bare r             the rig r as that
--     first start k      begun on a capacitor in condition k
--     after m c w        after one call
--     course m cs w      after the calls cs, the oldest first
--     followed           every history comes to the course of its calls
use Rattle.std.proofs.Common.{◌≡◌, ◌+◌, Bool, if◌then◌else◌, ◌||◌, nat_le, List, [], ◌∷◌, ◌++◌, Result, sym, refl, ap, ◌∙◌}
use Rattle.std.proofs.lemmas.Bool.{le-leb, lt-leb}
use Rattle.isa.specs.declared.refusal.Refusal.{Refusal}
use Rattle.machine.specs.declared.state.State.{State}
use Rattle.supply.specs.declared.answer.Answer.{Answer}
use Rattle.supply.specs.declared.answer.Answer.TheVariants.{Yes, No}
use Rattle.supply.specs.declared.capacitor.Capacitor.{Capacitor}
use Rattle.supply.specs.Capacitor.{Condition, condition_of, answer_to, drawn, filled}
use Rattle.claims.specs.declared.call.Call.{Call}
use Rattle.claims.specs.declared.call.Call.TheVariants as call
use Rattle.claims.specs.declared.reply.Attempt.{Attempt}
use Rattle.claims.specs.declared.reply.Reply.{Reply}
use Rattle.claims.specs.History.{Called, History, History.begun_on, History.called}
use Rattle.claims.specs.Machine.{Machine}
use Rattle.claims.specs.Rig.{Rig, attempt_limit, cut_limit, FellBack, Stepped, Stepped.refused_ended, Stepped.refused_attempts, Stepped.went, Stepped.fell, CutDone, CutDone.refused_ended as cut-ended, CutDone.refused_cuts, CutDone.done}
use Rattle.worked.specs.Known.{capacitors}

abbrev pub Bare : Type 0
Bare = Rig Condition State

abbrev pub bare : Rig Capacitor State → Bare
bare r =
    record {
      supply = condition_of r.supply;
      state = r.state;
      kept = r.kept;
      before = r.before;
      saves = r.saves;
      cuts = r.cuts;
      attempts = r.attempts;
    }

abbrev pub first : State → Condition → Bare
first start k = record { supply = filled k; state = start; kept = start; before = k.charges; saves = 0; cuts = 0; attempts = 0 }

-- a call is made unless the round has ended or the limit is reached
abbrev unless : {A : Type 0} → Bool → Bool → A → A → A
unless ended many w w' = if ended || many then w else w'

-- a charge begins, and the kept state returns
abbrev back : Bare → Bare
back w = record w { supply = filled w.supply; state = w.kept }

alike : {v w : Bare} → v.supply ≡ w.supply → v.state ≡ w.state → v.kept ≡ w.kept → v.before ≡ w.before → v.saves ≡ w.saves → v.cuts ≡ w.cuts → v.attempts ≡ w.attempts → v ≡ w
alike a b c d e f g = λ i. record { supply = a i; state = b i; kept = c i; before = d i; saves = e i; cuts = f i; attempts = g i }

fallen : {r r' : Rig Capacitor State} → FellBack capacitors r r' → bare r' ≡ back (bare r)
fallen x = alike x.charged x.state_is x.kept_is x.before_is x.saves_is x.cuts_is x.attempts_is

module _ (m : Machine State) where
  abbrev answered : Answer → Bare → Bare
  answered Yes w =
      let next = m.run.step w.state in
      record {
        supply = drawn w.supply (m.amount w.kept w.state);
        state = next;
        kept = if m.saves w.state || m.run.ended next then next else w.kept;
        before = w.before;
        saves = if m.saves w.state then w.saves + 1 else w.saves;
        cuts = w.cuts;
        attempts = w.attempts + 1;
      }
  answered No w = back (record w { supply = drawn w.supply (m.amount w.kept w.state); attempts = w.attempts + 1 })

  abbrev attempted : Bare → Bare
  attempted w = answered (answer_to w.supply (m.amount w.kept w.state)) w

  abbrev pub after : Call → Bare → Bare
  after call.Step w = unless (m.run.ended w.kept) (nat_le attempt_limit w.attempts) w (attempted w)
  after call.Cut w = unless (m.run.ended w.kept) (nat_le cut_limit w.cuts) w (back (record w { cuts = w.cuts + 1 }))
  after call.Charges w = w
  after call.Saves w = w
  after call.Cuts w = w
  after call.Attempts w = w
  after (call.Record i) w = w

  abbrev pub course : List Call → Bare → Bare
  course [] w = w
  course (c ∷ cs) w = course cs (after c w)

  course_more : (cs : List Call) (c : Call) (w : Bare) → course (cs ++ c ∷ []) w ≡ after c (course cs w)
  course_more [] c w = refl
  course_more (d ∷ cs) c w = course_more cs c (after d w)

  step_made : (r r' : Rig Capacitor State) (a : Result Attempt Refusal) → Stepped capacitors m r a r' → bare r' ≡ after call.Step (bare r)
  step_made r r' a (refused_ended e said same) = rw e (ap bare same)
  step_made r r' a (refused_attempts e many said same) = rw (e, le-leb attempt_limit r.attempts many) (ap bare same)
  step_made r r' a (went e few said x) =
      let left : bare r' ≡ answered Yes (bare r) =
      alike x.drawn.leaves x.state_is x.kept_is x.before_is x.saves_is x.cuts_is x.attempts_is in
      rw (e, lt-leb attempt_limit r.attempts few) (left ∙ ap (λ (y : Answer). answered y (bare r)) x.drawn.answers)
  step_made r r' a (fell e few said x) =
      let left : bare r' ≡ answered No (bare r) =
      fallen x.back ∙ ap (λ (k : Condition). back (record (bare r) { supply = k; attempts = r.attempts + 1 })) x.drawn.leaves in
      rw (e, lt-leb attempt_limit r.attempts few) (left ∙ ap (λ (y : Answer). answered y (bare r)) x.drawn.answers)

  cut_made : (r r' : Rig Capacitor State) (a : Result (Unit {0}) Refusal) → CutDone capacitors m.run.ended r a r'
      → bare r' ≡ after call.Cut (bare r)
  cut_made r r' a (cut-ended e said same) = rw e (ap bare same)
  cut_made r r' a (refused_cuts e many said same) = rw (e, le-leb cut_limit r.cuts many) (ap bare same)
  cut_made r r' a (done e few said x) = rw (e, lt-leb cut_limit r.cuts few) (fallen x)

  call_made : (c : Call) (r r' : Rig Capacitor State) (a : Reply) → Called capacitors m c r a r' → bare r' ≡ after c (bare r)
  call_made call.Step r r' a d = step_made r r' d.0 d.2
  call_made call.Cut r r' a d = cut_made r r' d.0 d.2
  call_made call.Charges r r' a d = ap bare d.1
  call_made call.Saves r r' a d = ap bare d.1
  call_made call.Cuts r r' a d = ap bare d.1
  call_made call.Attempts r r' a d = ap bare d.1
  call_made (call.Record i) r r' a d = ap bare d.1

  pub followed : (s : Capacitor) (cs : List Call) (replies : List Reply) (r : Rig Capacitor State) → History capacitors m s cs replies r
      → bare r ≡ course cs (first m.run.start (condition_of s))
  followed s _ _ _ (begun_on b) = alike b.charged b.state_is b.kept_is b.before_is b.saves_is b.cuts_is b.attempts_is
  followed s _ _ _ (called {cs = cs} {replies = replies} {r = r} {r' = r'} c a h d) =
      call_made c r r' a d ∙ ap (after c) (followed s cs replies r h) ∙ sym (course_more cs c (first m.run.start (condition_of s)))
