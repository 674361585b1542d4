-- Each turn of the loop lengthens the history by a call, and the columns by its moment.
use Rattle.std.proofs.Common.{◌≡◌, ◌∷◌, [], take, refl, sym, subst, take_all, arith}
use Rattle.claims.specs.History.{History.begun_on}
use Rattle.claims.specs.Round.{machine_of}
use Rattle.rig.specs.Seen.{seen}
use Rattle.survey.specs.declared.moment.Event.TheVariants.{Begun}
use Rattle.survey.specs.Columns.{Shows}
use Rattle.survey.proofs.Tracing.{ShowsRun, further}
use Rattle.survey.proofs.trace.Trace.of.Goals as goal

pub loop-call-init : goal.loop-call-init
loop-call-init g c =
    let none : Shows c.new-columns.result.list.items [] = subst (λ l. Shows l []) (sym c.new-columns.ensures) refl in
    ([], begun_on c.begin-rig.ensures, subst (λ n. Shows c.add.new.self.list.items (record { charge = n; event = Begun } ∷ [])) c.assured.ensures (c.add.ensures.shows [] none))

pub loop-call-preserved : goal.loop-call-preserved
loop-call-preserved g c =
    further g.S.Supply (machine_of g.M.PriceModel.means c.args.round.now) c.args.supply (seen c.loop-call.rig) (seen c.moment_of.new.rig) c.args.calls.now c.loop-call.call-index _ _ _ _ _
    c.loop-call-test.true c.moment_of.ensures.1 c.moment_of.ensures.2 c.note.ensures c.loop-call.invariant

pub returns : goal.returns
returns g c =
    let all : take c.loop-call.call-index c.args.calls.now ≡ c.args.calls.now = take_all _ _ (omega (arith, c.loop-call-test.false)) in
    let run = subst (λ cs. ShowsRun g.S.Supply (machine_of g.M.PriceModel.means c.args.round.now) c.args.supply cs (seen c.loop-call.rig) c.loop-call.columns.list.items) all c.loop-call.invariant in
    record {
      replies = run.0;
      rig = seen c.loop-call.rig;
      history = run.1;
      columns = run.2;
      charges = c.charges.ensures;
      saves = c.saves.ensures;
      cuts = c.cuts.ensures;
      attempts = c.attempts.ensures;
      kept = c.kept.ensures;
    }
