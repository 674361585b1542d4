-- A history, a call further, and the columns that stand for its moments.
use Rattle.std.proofs.Common.{◌≡◌, ℕ, ◌+◌, ◌<◌, List, [], ◌∷◌, ◌++◌, Option, length, get_or, take, sym, subst}
use Rattle.std.proofs.lemmas.List.{take_more}
use Rattle.std.specs.Option.{option_to_list}
use Rattle.supply.specs.declared.supply.Supply.{Ghosts}
use Rattle.claims.specs.declared.call.Call.{Call}
use Rattle.claims.specs.declared.reply.Reply.{Reply}
use Rattle.claims.specs.History.{Called, History, History.called}
use Rattle.claims.specs.Machine.{Machine}
use Rattle.claims.specs.Rig.{Rig}
use Rattle.survey.specs.declared.moment.Moment.{Moment}
use Rattle.survey.specs.declared.column.Column.{Column}
use Rattle.survey.specs.Moment.{moment_of, moments}
use Rattle.survey.specs.Columns.{Shows}

-- some history of these calls left the rig, and the columns stand for its moments
abbrev pub ShowsRun : {S State : Type 0} (G : Ghosts S) (m : Machine State) (s : S) → List Call → Rig S State → List Column → Type 0
ShowsRun G m s cs r columns = (replies : List Reply) × (h : History G m s cs replies r) × Shows columns (moments G h)

-- one call more
pub further : {S State : Type 0} (G : Ghosts S) (m : Machine State) (s : S) (r r' : Rig S State) (calls : List Call) (i : ℕ) (d : Call) (old new : List Column) (a : Reply) (o : Option Moment)
    → i < length calls → Called G m (get_or calls i d) r a r' → o ≡ moment_of G r a r'
    → ((ms : List Moment) → Shows old ms → Shows new (ms ++ option_to_list o))
    → ShowsRun G m s (take i calls) r old → ShowsRun G m s (take (i + 1) calls) r' new
further G m s r r' calls i d old new a o inside step told shown run =
    subst (λ cs. ShowsRun G m s cs r' new) (sym (take_more calls i d inside))
    (run.0 ++ a ∷ [], called (get_or calls i d) a run.1 step, subst (λ p. Shows new (moments G run.1 ++ option_to_list p)) told (shown (moments G run.1) run.2))
