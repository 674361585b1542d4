use Rattle.search.proofs.Flooding.{Begun}
use Rattle.search.proofs.table.Table.reach.Given as goal

abbrev pub invariant-loop-start : goal.invariant-loop-start
invariant-loop-start l = Begun l.self.starts.now l.flood.seen l.flood.queue.items l.start
