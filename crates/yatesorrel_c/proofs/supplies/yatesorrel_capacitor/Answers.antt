-- The plain numbers are those of the capacitor that was made.
use Rattle.yatesorrel_c.specs.Supplies.{CapacitorMade.made}
use Rattle.yatesorrel_c.proofs.supplies.yatesorrel_capacitor.Goals as goal

pub returns-in-Ok : goal.returns-in-Ok
returns-in-Ok c = made c.in-Ok.ensures.0 c.in-Ok.capacitor c.in-Ok.ensures.1 c.of_capacitor.ensures c.of.ensures
