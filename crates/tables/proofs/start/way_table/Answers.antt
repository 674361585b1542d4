use Rattle.std.proofs.Common.{rules}
use Rattle.paths.specs.Net.{no_node}
use Rattle.tables.proofs.start.way_table.Goals as goal

pub returns : goal.returns
returns c =
    let t = c.table_of.ensures in
    record { size = t.size; holds = λ k below. let p = t.holds k no_node below in search rules }
