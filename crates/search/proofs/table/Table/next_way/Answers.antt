use Rattle.std.proofs.Common.{rules}
use Rattle.paths.specs.Net.{tabled}
use Rattle.search.proofs.Marking.{second_next}
use Rattle.search.proofs.table.Table.next_way.Goals as goal

pub returns-in-None : goal.returns-in-None
returns-in-None c =
    second_next (tabled c.args.self.now.nodes.now) c.args.marks.now c.args.node c.ways_within-first.ensures (search (rules, c.if_new.ensures)) c.if_new-in-None.result
    c.if_new-in-None.ensures
