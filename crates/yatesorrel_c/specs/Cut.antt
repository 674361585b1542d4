-- A cut of a rig from C. Assumes nothing.
--     CutTold r p t     a cut of the rig r left the rig whose plain numbers p are, and t tells its answer
use Rattle.std.specs.Prelude.{◌≡◌, Result}
use Rattle.std.specs.Result.{result_err}
use Rattle.isa.specs.declared.refusal.Refusal.{Refusal}
use Rattle.machine.specs.declared.state.State.{State}
use Rattle.machine.specs.State.{ended}
use Rattle.claims.specs.Rig.{Rig, CutDone}
use Rattle.supply.specs.declared.source.Source.{Source}
use Rattle.yatesorrel_c.specs.declared.told.PlainTold.{PlainTold}
use Rattle.yatesorrel_c.specs.declared.held.PlainRig.{PlainRig}
use Rattle.yatesorrel_c.specs.Told.{told_in}
use Rattle.yatesorrel_c.specs.Held.{plain_rig, Whole, sources}

pub record CutTold (r : Rig Source State) (p : PlainRig) (t : PlainTold) : Type 0 where
  pub answer : Result (Unit {0}) Refusal
  pub left : Rig Source State
  pub whole : Whole left
  pub cut : CutDone sources ended r answer left
  pub written : p ≡ plain_rig left
  pub told : t ≡ told_in (result_err answer)
