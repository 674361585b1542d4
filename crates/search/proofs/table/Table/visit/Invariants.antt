use Rattle.std.proofs.Common.{◌+◌, ◌*◌, length}
use Rattle.paths.specs.Net.{tabled}
use Rattle.search.specs.Visit.{news}
use Rattle.search.proofs.Marking.{Visiting}
use Rattle.search.proofs.table.Table.visit.Given as goal

abbrev pub invariant-loop-node : goal.invariant-loop-node
invariant-loop-node l = Visiting (tabled l.self.nodes.now) l.fn.visits.marks l.start l.visits.marks l.visits.path.items l.visits.order.items

abbrev pub decreases-loop-node : goal.decreases-loop-node
decreases-loop-node l = 2 * news l.visits.marks + length l.visits.path.items
