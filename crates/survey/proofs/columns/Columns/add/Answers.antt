-- The column of the moment stands behind the others.
use Rattle.std.proofs.Common.{[], ◌∷◌, ◌++◌, subst, sym}
use Rattle.survey.specs.Columns.{Shows}
use Rattle.survey.proofs.Showing.{shows_push}
use Rattle.survey.proofs.columns.Columns.add.Goals as goal

pub returns-then-complete-clause-shows : goal.returns-then-complete-clause-shows
returns-then-complete-clause-shows c = λ ms shows.
    subst (λ l. Shows l (ms ++ c.args.moment ∷ [])) (sym c.push.ensures.items) (shows_push _ ms c.of-column.result c.args.moment c.of-column.ensures (c.make_room.ensures.shows ms shows))
