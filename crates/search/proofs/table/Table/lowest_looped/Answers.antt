use Rattle.std.proofs.Common.{◌<◌, rules}
use Rattle.std.proofs.lemmas.Iterator.{first_from_Range}
use Rattle.paths.specs.Net.{tabled}
use Rattle.search.specs.Reach.{Looped}
use Rattle.search.proofs.Reaching.{lowest}
use Rattle.search.proofs.table.Table.lowest_looped.Goals as goal

pub returns : goal.returns
returns c =
    lowest c.args.self.now.nodes.now c.args.self.now.starts.now c.args.self.now.sized.0 c.find.result
    (first_from_Range _ _ _ c.find.result
    (λ k. k < 1024 → Looped (tabled c.args.self.now.nodes.now) c.args.self.now.starts.now k)
    (λ k. k < 1024 → Looped (tabled c.args.self.now.nodes.now) c.args.self.now.starts.now k → ⊥) c.find.ensures.ran
    (λ x q k lt. search (rules, c.reach-reached.ensures x lt))
    (λ x q k. (search rules, λ lt l. search (rules, c.reach-reached.ensures x lt, l.reached, l.on_loop))))
