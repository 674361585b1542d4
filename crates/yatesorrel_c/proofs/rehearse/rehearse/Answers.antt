-- Each turn of the loop lengthens the history by a call, so the run claims hold of the rig that is left.
use Rattle.std.proofs.Common.{◌≡◌, ℕ, ◌+◌, ◌<◌, List, [], ◌∷◌, ◌++◌, length, get_or, map, take, drop, set, sym, refl, ap, ◌∙◌, arith}
use Rattle.std.proofs.lemmas.List.{take_more_set, drop-set-lt, drop-drop, length-set, map_more, map_push}
use Rattle.machine.specs.declared.state.State.{State}
use Rattle.supply.specs.declared.supply.Supply.{Ghosts}
use Rattle.claims.specs.declared.call.Call.{Call}
use Rattle.claims.specs.declared.reply.Reply.{Reply}
use Rattle.claims.specs.History.{Called, History, History.begun_on, History.called}
use Rattle.claims.specs.Machine.{Machine}
use Rattle.claims.specs.Rig.{Rig}
use Rattle.claims.proofs.Claiming.{run_claims}
use Rattle.claims.proofs.Invariant.{Keeps}
use Rattle.yatesorrel_c.specs.declared.script.PlainCall.{PlainCall}
use Rattle.yatesorrel_c.specs.declared.script.PlainReply.{PlainReply}
use Rattle.yatesorrel_c.specs.Script.{call_in, reply_in}
use Rattle.yatesorrel_c.proofs.rehearse.rehearse.Goals as goal

pub loop-made-init : goal.loop-made-init
loop-made-init g c = record { answers = []; history = begun_on c.begin-rig.ensures; told = refl; rest = refl; same_length = refl }

abbrev first_call : PlainCall
first_call = record { kind = 0; index = 0 }

-- one call more
further : {S : Type 0} {G : Ghosts S} {m : Machine State} {s : S} {r r' : Rig S State} (calls : List PlainCall) (answers : List Reply) (i : ℕ) (d : Call) (a : Reply)
    → i < length calls → d ≡ call_in (get_or calls i first_call) → History G m s (map call_in (take i calls)) answers r → Called G m d r a r'
    → History G m s (map call_in (take (i + 1) calls)) (answers ++ a ∷ []) r'
further calls answers i d a h e past t = rw (map_more call_in calls i first_call h, sym e) (called d a past t)

-- its reply is told
told_more : (replies : List PlainReply) (answers : List Reply) (i : ℕ) (p : PlainReply) (a : Reply) → i < length replies → p ≡ reply_in a
    → take i replies ≡ map reply_in answers → take (i + 1) (set replies i p) ≡ map reply_in (answers ++ a ∷ [])
told_more replies answers i p a h e past = rw (take_more_set replies i p h, past, e) (sym (map_push reply_in answers a))

-- the replies past the call stay as they were
rest : (replies first : List PlainReply) (i : ℕ) (a : PlainReply) → drop i replies ≡ drop i first → drop (i + 1) (set replies i a) ≡ drop (i + 1) first
rest replies first i a e = drop-set-lt (i + 1) replies i a (omega arith) ∙ sym (drop-drop 1 i replies) ∙ ap (drop 1) e ∙ drop-drop 1 i first

pub loop-made-preserved : goal.loop-made-preserved
loop-made-preserved g c =
    let v = c.loop-made.invariant in
    let i = c.loop-made.made in
    let replies = c.loop-made.replies in
    let answer = c.call-in-loop-made.result in
    record {
      answers = v.answers ++ answer ∷ [];
      history = further c.args.calls.now v.answers i c.call.result answer (omega arith) c.call.ensures v.history c.call-in-loop-made.ensures;
      told = told_more replies v.answers i c.of.result answer (omega arith) c.of.ensures v.told;
      rest = rest replies c.args.replies.now i c.of.result v.rest;
      same_length = length-set replies i c.of.result ∙ v.same_length;
    }

pub returns : goal.returns
returns g c =
    let v = c.loop-made.invariant in
    let model = c.args.round.now.model.now in
    let keeps : Keeps g.S.Supply = record { drawn = g.met.S.Supply.drawn; recharged = g.met.S.Supply.recharged } in
    let bounded = g.met.M.PriceModel.bounded model in
    record {
      made = c.loop-made.made;
      all = omega arith;
      replies = v.answers;
      told = v.told;
      rest = v.rest;
      history = v.history;
      claimed = λ budget lawful accepted b. run_claims g.S.Supply keeps _ bounded _ _ lawful budget accepted c.args.supply b _ _ _ v.history;
    }
