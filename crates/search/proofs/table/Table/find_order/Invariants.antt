use Rattle.paths.specs.Net.{tabled}
use Rattle.search.proofs.Starting.{Started}
use Rattle.search.proofs.table.Table.find_order.Given as goal

abbrev pub invariant-loop-start : goal.invariant-loop-start
invariant-loop-start l = Started (tabled l.self.nodes.now) l.self.starts.now l.visits.marks l.visits.path.items l.visits.order.items l.start
