-- The columns joined two by two stand for the same moments.
use Rattle.std.proofs.Common.{◌≡◌, subst, sym, rules}
use Rattle.survey.specs.Columns.{Shows, halved}
use Rattle.survey.proofs.Showing.{shows_halved}
use Rattle.survey.proofs.columns.Columns.make_room.Goals as goal

pub returns-then-is_full-clause-shows : goal.returns-then-is_full-clause-shows
returns-then-is_full-clause-shows c = λ ms shows.
    let made : c.halved-self.result.items ≡ halved c.args.self.now.list.items = search rules in
    subst (λ l. Shows l ms) (sym made) (shows_halved c.args.self.now.list.items ms shows)
