use Rattle.tables.proofs.Describing.{reaches_told, way_table_ways}
use Rattle.tables.proofs.start.reached_in.Goals as goal

pub returns : goal.returns
returns c =
    reaches_told c.args.image.now c.way_table.result c.way_table.ensures.size (way_table_ways c.args.image.now c.way_table.result c.way_table.ensures)
    c.reach_from.result c.reach_from.ensures
