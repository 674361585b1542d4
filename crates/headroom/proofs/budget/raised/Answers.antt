-- Where the budget pays all it is the least that does, since a walk costs as much.
use Rattle.headroom.proofs.Raising.{accepted_more}
use Rattle.headroom.proofs.budget.raised.Goals as goal

pub returns : goal.returns
returns g c =
    let least = c.loop-price.invariant in
    record {
      some = least.some;
      most = least.most;
      accepted = λ b h k. accepted_more (g.M.PriceModel.means c.args.model.now) c.args.image.now c.loop-price.budget b 1024 c.in_default.ensures h k;
      refused = least.refused;
    }
