-- What is kept of a run. Assumes nothing.
--     Traced G means round s calls t     a rig of the round, begun on s, made the calls; t has what it tells then, and columns that
--                                        stand for its moments; the model of the round means what `means` says of it
use Rattle.std.specs.Prelude.{◌≡◌, List}
use Rattle.machine.specs.declared.state.State.{State}
use Rattle.pricing.specs.Model.{Model}
use Rattle.supply.specs.declared.supply.Supply.{Ghosts}
use Rattle.claims.specs.declared.call.Call.{Call}
use Rattle.claims.specs.declared.reply.Reply.{Reply}
use Rattle.claims.specs.declared.round.Round.{Round}
use Rattle.claims.specs.History.{History}
use Rattle.claims.specs.Rig.{Rig, begun}
use Rattle.claims.specs.Round.{machine_of}
use Rattle.survey.specs.declared.trace.Trace.{Trace}
use Rattle.survey.specs.Moment.{moments}
use Rattle.survey.specs.Columns.{Shows}

pub record Traced {S M : Type 0} (G : Ghosts S) (means : M → Model) (round : Round M) (s : S) (calls : List Call) (t : Trace) : Type 0 where
  pub replies : List Reply
  pub rig : Rig S State
  pub history : History G (machine_of means round) s calls replies rig
  pub columns : Shows t.columns.list.items (moments G history)
  pub charges : t.charges ≡ begun G rig
  pub saves : t.saves ≡ rig.saves
  pub cuts : t.cuts ≡ rig.cuts
  pub attempts : t.attempts ≡ rig.attempts
  pub kept : t.kept ≡ rig.kept
