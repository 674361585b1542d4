-- A rig begun from C. Assumes nothing.
--     RigBegun s p t     a rig was begun on the supply s, whose plain numbers p are, and t tells no refusal
use Rattle.std.specs.Prelude.{◌≡◌, None}
use Rattle.machine.specs.State.{initial}
use Rattle.machine.specs.declared.state.State.{State}
use Rattle.claims.specs.Rig.{Rig, Begun}
use Rattle.supply.specs.declared.source.Source.{Source}
use Rattle.yatesorrel_c.specs.declared.told.PlainTold.{PlainTold}
use Rattle.yatesorrel_c.specs.declared.held.PlainRig.{PlainRig}
use Rattle.yatesorrel_c.specs.Told.{told_in}
use Rattle.yatesorrel_c.specs.Held.{plain_rig, Whole, sources}

pub record RigBegun (s : Source) (p : PlainRig) (t : PlainTold) : Type 0 where
  pub left : Rig Source State
  pub whole : Whole left
  pub begun : Begun sources initial s left
  pub written : p ≡ plain_rig left
  pub told : t ≡ told_in None
