use Rattle.isa.specs.Image.{instruction_at}
use Rattle.paths.specs.Net.{no_node}
use Rattle.tables.specs.Node.{Tabled}
use Rattle.tables.specs.Walk.{walk_node}
use Rattle.tables.proofs.walk.walk_table.Given as goal

abbrev pub invariant-loop-at : goal.invariant-loop-at
invariant-loop-at g l = Tabled no_node l.nodes (λ i. walk_node (g.M.PriceModel.means l.model) i (instruction_at l.image i)) l.at
