use Rattle.tables.proofs.Describing.{starts_told, begins_told}
use Rattle.tables.proofs.start.starts_of.Goals as goal

pub returns : goal.returns
returns c =
    let t = c.start_table.ensures in
    let begins = begins_told c.args.image.now c.reached_in.result c.reached_in.ensures c.start_table.result t in
    record { size = t.size; any = begins; told = λ lawful m. starts_told m c.args.image.now lawful c.start_table.result begins }
