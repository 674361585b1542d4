use Rattle.std.proofs.Common.{rules, ◌≡◌, refl, arith}
use Rattle.tables.proofs.Tabling.{made_at}
use Rattle.tables.proofs.table.table_of.Goals as goal

pub returns-clause-holds : goal.returns-clause-holds
returns-clause-holds g c at d below =
    made_at _ (goal.F-post g c.args.entry) (λ p. p.0.now ≡ c.args.entry)
    (λ p q i y same called. let met = called.met in search rules)
    c.from_fn.result 1024 0 _ refl c.from_fn.ensures.items.each at d (omega arith) below
