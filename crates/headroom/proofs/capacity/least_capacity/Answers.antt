-- What refuses a least budget refuses a least capacity.
use Rattle.std.proofs.Common.{arith}
use Rattle.std.proofs.lemmas.Result.{err_from_is_err_and}
use Rattle.headroom.specs.Capacity.{CapacityRefused.numbers, CapacityRefused.image_refused}
use Rattle.headroom.proofs.capacity.least_capacity.Goals as goal

pub returns-in_err-new-clause-least : goal.returns-in_err-new-clause-least
returns-in_err-new-clause-least g c =
    let made = c.in_err-new.ensures in
    let out = err_from_is_err_and c.from_residual.result c.from_residual.ensures.1 in
    rw (out.1, out.2, made.1) (numbers (λ d w. made.0 (grind arith)))

pub returns-in_err-budget-clause-least : goal.returns-in_err-budget-clause-least
returns-in_err-budget-clause-least g c =
    let out = err_from_is_err_and c.from_residual-in_err-budget.result c.from_residual-in_err-budget.ensures.1 in
    rw (out.1, out.2) (image_refused c.in_ok-new.ensures.0 c.in_err-budget.ensures.least)
