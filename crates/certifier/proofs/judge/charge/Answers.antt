use Rattle.std.proofs.Common.{Err, ap, ◌∙◌, sym, arith}
use Rattle.std.proofs.lemmas.Result.{err_from_is_err_and}
use Rattle.isa.proofs.Refusing.{ok_from, err_from}
use Rattle.certifier.proofs.Charging.{charge_over, charge_more, charge_done}
use Rattle.certifier.proofs.judge.charge.Goals as goal

pub returns-in_err-check_start : goal.returns-in_err-check_start
returns-in_err-check_start g c =
    let p = err_from_is_err_and c.from_residual.result c.from_residual.ensures.1 in
    p.1 ∙ ap Err p.2
    ∙ charge_over g.V.Priced.price g.V.PathValue.kind.empty c.args.worths.now c.args.starts.now c.args.budget
    c.loop-at.at c.price_at.result c.price_at.ensures c.loop-at.invariant _ (err_from _ _ (sym c.in_err-check_start.ensures)) (omega (arith, c.loop-at-test.true, c.requires.few))

pub loop-at-preserved : goal.loop-at-preserved
loop-at-preserved g c =
    charge_more g.V.Priced.price g.V.PathValue.kind.empty c.args.worths.now c.args.starts.now c.args.budget
    c.loop-at.at c.price_at.result c.price_at.ensures c.loop-at.invariant (ok_from _ (sym c.in_ok-check_start.ensures))

pub returns : goal.returns
returns g c =
    charge_done g.V.Priced.price g.V.PathValue.kind.empty c.args.worths.now c.args.starts.now c.args.budget
    c.loop-at.at (omega arith) (omega arith) c.loop-at.invariant
