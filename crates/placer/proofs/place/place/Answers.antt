-- The answer and the image that is left are the defined ones, and these mean what they say.
use Rattle.std.proofs.Common.{length, sym, rules}
use Rattle.std.proofs.lemmas.Result.{err_from_is_err_and}
use Rattle.placer.proofs.Meaning.{meaning, not_admitted, left_early}
use Rattle.placer.proofs.place.place.Goals as goal

pub returns-in_err-admit-clause-meaning : goal.returns-in_err-admit-clause-meaning
returns-in_err-admit-clause-meaning g c =
    let out = err_from_is_err_and c.from_residual.result c.from_residual.ensures.1 in
    rw (out.1, out.2) (not_admitted (g.M.PriceModel.means c.args.by.now.model.now) c.args.image.now c.args.by.now.budget (length c.args.working.now) c.in_err-admit.field-0.0 (sym c.in_err-admit.ensures.value))

pub returns-in_err-admit-clause-left : goal.returns-in_err-admit-clause-left
returns-in_err-admit-clause-left g c =
    let out = err_from_is_err_and c.from_residual.result c.from_residual.ensures.1 in
    rw (out.1, out.2) (left_early (g.M.PriceModel.means c.args.by.now.model.now) c.args.image.now c.args.by.now.budget (length c.args.working.now) c.args.working.now c.in_err-admit.field-0.0 (sym c.in_err-admit.ensures.value))

pub returns-clause-meaning : goal.returns-clause-meaning
returns-clause-meaning g c =
    meaning (g.M.PriceModel.means c.args.by.now.model.now) c.args.image.now c.args.by.now.budget (length c.args.working.now)
    c.place_lawful.new.image c.place_lawful.result (search rules) (search rules)
