-- The column that is made is the joined one, and that stands for the moments of both.
use Rattle.std.proofs.Common.{◌≡◌, ◌++◌, subst, rules}
use Rattle.survey.specs.declared.column.Column.{Column}
use Rattle.survey.specs.Column.{Gathers, joined}
use Rattle.survey.proofs.Gathering.{gathers_joined}
use Rattle.survey.proofs.column.Column.joined.Goals as goal

pub returns-clause-gathers : goal.returns-clause-gathers
returns-clause-gathers c = λ xs ys g h.
    let made : Column = record { moments = c.saturating_add.result; least = c.min.result; most = c.max.result; saves = c.saturating_add-2.result; falls = c.saturating_add-3.result; cuts = c.saturating_add-4.result } in
    let same : joined c.args.self c.args.next ≡ made = search rules in
    subst (λ r. Gathers r (xs ++ ys)) same (gathers_joined c.args.self c.args.next xs ys g h)
