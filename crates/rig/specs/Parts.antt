-- A rig taken apart. Assumes nothing.
--     whole p     the parts p as the plain data of a rig
use Rattle.machine.specs.declared.state.State.{State}
use Rattle.claims.specs.Rig.{Rig}
use Rattle.rig.specs.declared.parts.Parts.{Parts}
use Rattle.rig.specs.Seen.{rig_on}

abbrev pub whole : {S : Type 0} → Parts S → Rig S State
whole p = rig_on p.supply p.standing
