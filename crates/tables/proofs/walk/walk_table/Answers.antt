use Rattle.std.proofs.Common.{◌≡◌, ap, ◌∙◌, subst, arith}
use Rattle.isa.specs.Image.{instruction_at}
use Rattle.paths.specs.Net.{no_node}
use Rattle.tables.specs.Node.{Tabled}
use Rattle.tables.specs.Walk.{walk_node}
use Rattle.tables.proofs.Describing.{described}
use Rattle.tables.proofs.Tabling.{table_put}
use Rattle.tables.proofs.walk.walk_table.Goals as goal

pub loop-at-preserved : goal.loop-at-preserved
loop-at-preserved g c = table_put _ _ _ _ _ (omega arith) (c.walk_node.ensures ∙ ap (walk_node (g.M.PriceModel.means c.args.model.now) c.loop-at.at) c.instruction_at.ensures.value) c.loop-at.invariant

pub returns : goal.returns
returns g c =
    let last : c.loop-at.at ≡ 1024 = omega arith in
    let m = g.M.PriceModel.means c.args.model.now in
    let image = c.args.image.now in
    let t : Tabled no_node c.loop-at.nodes (λ i. walk_node m i (instruction_at image i)) 1024 =
    subst (Tabled no_node c.loop-at.nodes (λ i. walk_node m i (instruction_at image i))) last c.loop-at.invariant in
    record { table = t; described = λ lawful. described m image lawful c.loop-at.nodes t }
