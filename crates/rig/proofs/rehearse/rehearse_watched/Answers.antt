-- Each turn of the loop lengthens the history by a call, so the run claims hold of the rig that is left.
use Rattle.std.proofs.Common.{◌≡◌, ℕ, ◌+◌, ◌<◌, List, length, min, get_or, take, drop, set, sym, refl, ap, ◌∙◌, arith}
use Rattle.std.proofs.lemmas.List.{take_more, take_more_set, drop-set-lt, drop-drop, length-set}
use Rattle.supply.specs.declared.supply.Supply.{Ghosts}
use Rattle.machine.specs.declared.state.State.{State}
use Rattle.claims.specs.declared.call.Call.{Call}
use Rattle.claims.specs.declared.call.Call.TheVariants.{Step}
use Rattle.claims.specs.declared.reply.Reply.{Reply}
use Rattle.claims.specs.History.{Called, History, History.begun_on, History.called}
use Rattle.claims.specs.Machine.{Machine}
use Rattle.claims.specs.Rig.{Rig}
use Rattle.claims.proofs.Claiming.{run_claims}
use Rattle.claims.proofs.Invariant.{Keeps}
use Rattle.rig.specs.Watch.{Told, Told.nothing, Told.more}
use Rattle.rig.proofs.rehearse.rehearse_watched.Goals as goal

pub loop-made-init : goal.loop-made-init
loop-made-init g c = record { history = begun_on c.begin-rig.ensures; rest = refl; told = nothing; same_length = refl }

-- one call more
further : {S : Type 0} {G : Ghosts S} {m : Machine State} {s : S} {r r' : Rig S State} (calls : List Call) (replies : List Reply) (i : ℕ) (d : Call) (a : Reply)
    → i < length calls → i < length replies → History G m s (take i calls) (take i replies) r → Called G m (get_or calls i d) r a r'
    → History G m s (take (i + 1) calls) (take (i + 1) (set replies i a)) r'
further calls replies i d a h k past t = rw (take_more calls i d h, take_more_set replies i a k) (called _ a past t)

-- the replies past the call stay as they were
rest : (replies first : List Reply) (i : ℕ) (a : Reply) → drop i replies ≡ drop i first → drop (i + 1) (set replies i a) ≡ drop (i + 1) first
rest replies first i a e = drop-set-lt (i + 1) replies i a (omega arith) ∙ sym (drop-drop 1 i replies) ∙ ap (drop 1) e ∙ drop-drop 1 i first

-- and one telling more
told_more : {W : Type 0} {tells : W → ℕ → Reply → W → Type 0} {w v u : W} (replies : List Reply) (i : ℕ) (a : Reply) → i < length replies
    → Told tells w i (take i replies) v → tells v (i + 1) a u → Told tells w (i + 1) (take (i + 1) (set replies i a)) u
told_more replies i a k t m = rw (take_more_set replies i a k) (more t m)

pub loop-made-preserved : goal.loop-made-preserved
loop-made-preserved g c =
    let v = c.loop-made.invariant in
    let i = c.loop-made.made in
    let replies = c.loop-made.replies in
    record {
      history = further c.args.calls.now replies i Step c.call-reply.result (omega arith) (omega arith) v.history c.call-reply.ensures;
      rest = rest replies c.args.replies.now i c.call-reply.result v.rest;
      told = told_more replies i c.call-reply.result (omega arith) v.told c.made.ensures;
      same_length = length-set replies i c.call-reply.result ∙ v.same_length;
    }

pub returns : goal.returns
returns g c =
    let v = c.loop-made.invariant in
    let model = c.args.round.now.model.now in
    let keeps : Keeps g.S.Supply = record { drawn = g.met.S.Supply.drawn; recharged = g.met.S.Supply.recharged } in
    let bounded = g.met.M.PriceModel.bounded model in
    record {
      rehearsed =
          record {
            made = c.loop-made.made;
            all = omega arith;
            history = v.history;
            rest = v.rest;
            claimed = λ budget lawful accepted b. run_claims g.S.Supply keeps _ bounded _ _ lawful budget accepted c.args.supply b _ _ _ v.history;
          };
      told = let e : c.loop-made.made ≡ min (length c.args.calls.now) (length c.args.replies.now) = omega arith in rw (sym e) v.told;
    }
