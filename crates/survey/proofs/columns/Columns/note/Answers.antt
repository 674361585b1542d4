-- Where there is no moment, nothing is added.
use Rattle.std.proofs.Common.{◌++◌, subst, sym}
use Rattle.std.specs.Option.{option_to_list}
use Rattle.survey.specs.Columns.{Shows}
use Rattle.survey.proofs.Showing.{shows_nothing}
use Rattle.survey.proofs.columns.Columns.note.Goals as goal

pub returns-in-None : goal.returns-in-None
returns-in-None c = λ ms shows. subst (λ o. Shows c.args.self.now.list.items (ms ++ option_to_list o)) (sym c.in-None.is) (shows_nothing _ ms shows)
