-- The placements in the known round, by computation.
use Rattle.std.proofs.Common.{refl}
use Rattle.isa.specs.Opcode.{class_of, code_of, source_of, under, operations, tests, sizes, negation, arithmetic, branch, access, classes, singles, joined, kind_of}
use Rattle.walks.specs.ImageGraph.{role_at, ways_at, price_at}
use Rattle.placer.specs.Turn.{turned_image}
use Rattle.placer.specs.Example.{PlacementsKnown}

pub placements_known : PlacementsKnown
unfolding class_of code_of source_of under operations tests sizes negation arithmetic branch access classes singles joined kind_of role_at ways_at price_at turned_image
placements_known = record { needed = refl; saved = refl; needless = refl; same = refl; hopeless = refl; kept = refl }
