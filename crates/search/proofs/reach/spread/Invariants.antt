use Rattle.paths.specs.Net.{tabled}
use Rattle.search.proofs.Flooding.{Spreading}
use Rattle.search.proofs.reach.spread.Given as goal

abbrev pub invariant-loop-next : goal.invariant-loop-next
invariant-loop-next l = Spreading (tabled l.nodes) l.initial.flood.seen l.flood.seen l.flood.queue.items l.next
