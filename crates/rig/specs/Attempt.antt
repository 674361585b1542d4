-- A step of a rig, part by part. Assumes nothing.
--     Due                    what is to be drawn for a step, and whether it is a save
--     Advanced m t d t'      the step of t was counted as an attempt and made, before it is drawn for, which left t'; d is due for it
--     Stood saves t a t'     the step that led to t, a save or not, was answered yes and by a, which left t'
--     Lent G m r x r'        a step asked of the rig r, whose supply is lent for it, answers x and leaves r'; none, and r is as it was,
--                            where r counts more saves than attempts
use Rattle.std.specs.Prelude.{◌≡◌, ◌+◌, ◌<◌, ◌≤◌, Bool, if◌then◌else◌, ◌||◌, Option, MatchOption, Result}
use Rattle.isa.specs.declared.refusal.Refusal.{Refusal}
use Rattle.machine.specs.declared.state.State.{State}
use Rattle.machine.specs.State.{ending_of, ended}
use Rattle.supply.specs.declared.supply.Supply.{Ghosts}
use Rattle.claims.specs.declared.reply.Attempt.{Attempt}
use Rattle.claims.specs.Machine.{Machine}
use Rattle.claims.specs.Rig.{Rig, answered, Stepped}
use Rattle.rig.specs.declared.standing.Standing.{Standing}
use Rattle.rig.specs.declared.step.Due.{Due}

pub record Advanced (m : Machine State) (t : Standing) (d : Due) (t' : Standing) : Type 0 where
  pub amount_is : d.amount ≡ m.amount t.kept t.state
  pub save_is : d.saves ≡ m.saves t.state
  pub state_is : t'.state ≡ m.run.step t.state
  pub kept_is : t'.kept ≡ t.kept
  pub before_is : t'.before ≡ t.before
  pub saves_is : t'.saves ≡ t.saves
  pub cuts_is : t'.cuts ≡ t.cuts
  pub attempts_is : t'.attempts ≡ t.attempts + 1

pub record Stood (saves : Bool) (t : Standing) (a : Attempt) (t' : Standing) : Type 0 where
  pub answer_is : a ≡ answered (ending_of t.state)
  pub state_is : t'.state ≡ t.state
  pub kept_is : t'.kept ≡ if saves || ended t.state then t.state else t.kept
  pub before_is : t'.before ≡ t.before
  pub saves_is : t'.saves ≡ if saves then t.saves + 1 else t.saves
  pub cuts_is : t'.cuts ≡ t.cuts
  pub attempts_is : t'.attempts ≡ t.attempts

abbrev pub Lent : {S : Type 0} → Ghosts S → Machine State → Rig S State → Option (Result Attempt Refusal) → Rig S State → Type 0
Lent G m r x r' = MatchOption x ((r.attempts < r.saves) × (r' ≡ r)) (λ a. (r.saves ≤ r.attempts) × Stepped G m r a r')
