-- The capacitor that was made is the one that is told.
use Rattle.yatesorrel.proofs.Sourcing.{sourced_by}
use Rattle.yatesorrel.proofs.source.source_of.Goals as goal

pub returns-in-Capacitor : goal.returns-in-Capacitor
returns-in-Capacitor c =
    rw c.in-Capacitor.is
    (sourced_by c.in-Capacitor.microfarads c.in-Capacitor.top c.in-Capacitor.bottom c.in-Capacitor.unit c.new-in-Capacitor.result c.map.result c.new-in-Capacitor.ensures c.map.ensures.cases)
