use Rattle.std.proofs.Common.{◌≡◌, rules}
use Rattle.certifier.proofs.Clearing.{all_given, cleared}
use Rattle.certifier.proofs.clear.clear.Goals as goal

pub returns : goal.returns
returns g c =
    let empty = g.V.PathValue.kind.empty in
    cleared g.V.PathValue.kind c.args.count c.min-count.result c.args.worths.now c.fill_with.new.self (search rules) c.fill_with.ensures.len
    (all_given _ empty (λ f. f.0.now ≡ empty) (λ p q x same called. let met = called.met in search rules) c.fill_with.new.self _ c.fill_with.ensures.ran.0 c.empty-empty.ensures c.fill_with.ensures.ran.1)
