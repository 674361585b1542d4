-- What is refused at the largest budget is refused at each.
use Rattle.std.proofs.Common.{sym, length}
use Rattle.std.proofs.lemmas.Result.{err_from_is_err_and}
use Rattle.headroom.proofs.Raising.{never}
use Rattle.headroom.proofs.budget.least_budget.Goals as goal

pub returns-in_err-certify-clause-least : goal.returns-in_err-certify-clause-least
returns-in_err-certify-clause-least g c =
    let out = err_from_is_err_and c.from_residual.result c.from_residual.ensures.1 in
    rw (out.1, out.2) (never (g.M.PriceModel.means c.args.model.now) c.args.image.now (length c.args.working.now) c.in_err-certify.field-0.0 (sym c.in_err-certify.ensures.value))

pub returns-in_err-certify-clause-left : goal.returns-in_err-certify-clause-left
returns-in_err-certify-clause-left g c =
    let out = err_from_is_err_and c.from_residual.result c.from_residual.ensures.1 in rw (out.1, out.2) c.in_err-certify.ensures.left
