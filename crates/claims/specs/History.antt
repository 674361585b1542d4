-- The history of a rig: the calls made since it was begun, each with its answer. Assumes nothing.
--     record_or o                  what the question after a record answers, where the log has o
--     Called G m c r a r'          call c of the rig r answers a, and leaves r'; a question changes nothing
--     History G m s cs replies r   the rig r, begun on the supply s, after the calls cs with these replies, the oldest first
--     steps_in cs                  how many of the calls ask for a step, refused ones counted
--     Always P h                   P holds of the calls so far and the rig, at every moment of the history h
use Rattle.std.specs.Prelude.{◌≡◌, ℕ, ◌+◌, List, [], ◌∷◌, ◌++◌, Some, None, Ok, Err, Option, Result}
use Rattle.isa.specs.declared.refusal.Refusal.{Refusal}
use Rattle.isa.specs.declared.refusal.Refusal.TheVariants.{NoRecord}
use Rattle.machine.specs.declared.state.Record.{Record}
use Rattle.supply.specs.declared.supply.Supply.{Ghosts}
use Rattle.claims.specs.declared.call.Call.{Call}
use Rattle.claims.specs.declared.call.Call.TheVariants as call
use Rattle.claims.specs.declared.reply.Attempt.{Attempt}
use Rattle.claims.specs.declared.reply.Reply.{Reply}
use Rattle.claims.specs.declared.reply.Reply.TheVariants as reply
use Rattle.claims.specs.Machine.{Machine}
use Rattle.claims.specs.Rig.{Rig, begun, Begun, CutDone, Stepped}

abbrev pub record_or : Option Record → Result Record Refusal
record_or (Some x) = Ok x
record_or None = Err NoRecord

abbrev pub steps_of : Call → ℕ
steps_of call.Step = 1
steps_of call.Cut = 0
steps_of call.Charges = 0
steps_of call.Saves = 0
steps_of call.Cuts = 0
steps_of call.Attempts = 0
steps_of (call.Record i) = 0

abbrev pub steps_in : List Call → ℕ
steps_in [] = 0
steps_in (c ∷ cs) = steps_of c + steps_in cs

module _ {S State : Type 0} (G : Ghosts S) (m : Machine State) where
  abbrev pub Called : Call → Rig S State → Reply → Rig S State → Type 0
  Called call.Step r a r' = (x : Result Attempt Refusal) × (a ≡ reply.Step x) × Stepped G m r x r'
  Called call.Cut r a r' = (x : Result (Unit {0}) Refusal) × (a ≡ reply.Cut x) × CutDone G m.run.ended r x r'
  Called call.Charges r a r' = (a ≡ reply.Count (begun G r)) × (r' ≡ r)
  Called call.Saves r a r' = (a ≡ reply.Count r.saves) × (r' ≡ r)
  Called call.Cuts r a r' = (a ≡ reply.Count r.cuts) × (r' ≡ r)
  Called call.Attempts r a r' = (a ≡ reply.Count r.attempts) × (r' ≡ r)
  Called (call.Record i) r a r' = (a ≡ reply.Record (record_or (m.record_at r.kept i))) × (r' ≡ r)

  pub data History (s : S) : List Call → List Reply → Rig S State → Type 0 where
    begun_on : {r : Rig S State} → Begun G m.run.start s r → History s [] [] r
    called : {cs : List Call} {replies : List Reply} {r r' : Rig S State} (c : Call) (a : Reply) → History s cs replies r → Called c r a r'
        → History s (cs ++ c ∷ []) (replies ++ a ∷ []) r'

abbrev pub Always : {S State : Type 0} {G : Ghosts S} {m : Machine State} (P : List Call → Rig S State → Type 0)
    {s : S} {cs : List Call} {replies : List Reply} {r : Rig S State} → History G m s cs replies r → Type 0
Always P (begun_on {r = r} b) = P [] r
Always P (called {cs = cs} {r' = r'} c a h d) = Always P h × P (cs ++ c ∷ []) r'
