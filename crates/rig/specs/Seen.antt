-- A rig of the code, as plain data. Assumes nothing.
--     rig_on s t     the rig on the supply s that stands at t
--     seen r         the rig r
use Rattle.machine.specs.declared.state.State.{State}
use Rattle.claims.specs.Rig.{Rig}
use Rattle.rig.specs.declared.rig.Rig.{Rig as Held}
use Rattle.rig.specs.declared.standing.Standing.{Standing}

abbrev pub rig_on : {S : Type 0} → S → Standing → Rig S State
rig_on s t = record { supply = s; state = t.state; kept = t.kept; before = t.before; saves = t.saves; cuts = t.cuts; attempts = t.attempts }

abbrev pub seen : {S : Type 0} → Held S → Rig S State
seen r = rig_on r.supply r.standing
