-- A rehearsal: a rig begun on a supply, and the calls of a script. Assumes nothing.
--     Rehearsed G means round s calls before after r     the rig r of the round, begun on s, made the calls for whose replies there
--                                                        was room; the replies stand in the list, whose rest is as it was before;
--                                                        the model of the round means what `means` says of it
use Rattle.std.specs.Prelude.{◌≡◌, ℕ, ◌≤◌, min, List, length, take, drop}
use Rattle.isa.specs.Lawful.{Lawful}
use Rattle.machine.specs.declared.state.State.{State}
use Rattle.pricing.specs.Model.{Model}
use Rattle.supply.specs.declared.supply.Supply.{Ghosts}
use Rattle.walks.specs.Acceptance.{Accepted}
use Rattle.walks.specs.ImageGraph.{graph_of}
use Rattle.claims.specs.declared.call.Call.{Call}
use Rattle.claims.specs.declared.reply.Reply.{Reply}
use Rattle.claims.specs.declared.round.Round.{Round}
use Rattle.claims.specs.Claims.{Claims}
use Rattle.claims.specs.History.{History, Always}
use Rattle.claims.specs.Rig.{Rig}
use Rattle.claims.specs.Round.{machine_of}

pub record Rehearsed {S M : Type 0} (G : Ghosts S) (means : M → Model) (round : Round M) (s : S) (calls : List Call) (before after : List Reply) (r : Rig S State) : Type 0 where
  pub made : ℕ
  pub all : made ≡ min (length calls) (length before)
  pub history : History G (machine_of means round) s (take made calls) (take made after) r
  pub rest : drop made after ≡ drop made before
  -- and the run claims hold at every moment of it
  pub claimed : (budget : ℕ) → Lawful round.image.now → Accepted (graph_of (means round.model.now) round.image.now) budget → budget ≤ (G.four s).budget
      → Always (Claims G (machine_of means round)) history
