-- The quotient rounded up is the least capacity that holds the budget.
use Rattle.std.proofs.Common.{rules}
use Rattle.headroom.proofs.Capacities.{enough_by}
use Rattle.headroom.proofs.capacity.capacity_for.Goals as goal

pub returns : goal.returns
returns c =
    enough_by c.args.voltages c.args.budget c.requires.some c.requires.within c.div_ceil-capacity.result c.div_ceil-capacity.ensures
    c.then.result c.then.ensures.variant (search rules)
