-- Of the columns up to the last and the last, the last is joined.
use Rattle.std.proofs.Common.{◌≡◌, [], ◌∷◌, ◌++◌, subst, sym, rules}
use Rattle.survey.specs.Column.{joined}
use Rattle.survey.specs.Columns.{Shows}
use Rattle.survey.proofs.Showing.{shows_extend}
use Rattle.survey.proofs.columns.Columns.extend.Goals as goal

pub returns-in-Some-clause-shows : goal.returns-in-Some-clause-shows
returns-in-Some-clause-shows c = λ ms m gathers shows.
    let parts : c.args.self.now.list.items ≡ c.pop.new.self.items ++ c.in-Some.last ∷ [] = search rules in
    let now : c.push.new.self.items ≡ c.pop.new.self.items ++ joined c.in-Some.last c.args.column ∷ [] = search rules in
    subst (λ l. Shows l (ms ++ m ∷ [])) (sym now) (shows_extend _ c.in-Some.last ms c.args.column m gathers (subst (λ l. Shows l ms) parts shows))
