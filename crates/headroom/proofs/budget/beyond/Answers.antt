-- A refusal tells the price of a walk over budget.
use Rattle.std.proofs.Common.{rules}
use Rattle.headroom.proofs.Raising.{beyond_by}
use Rattle.headroom.proofs.budget.beyond.Goals as goal

pub returns : goal.returns
returns g c =
    beyond_by (g.M.PriceModel.means c.args.by.now.model.now) c.args.image.now c.args.by.now.budget c.requires.enough c.requires.some c.requires.most
    c.verdict.result c.verdict.ensures.value c.map.result (search rules)
