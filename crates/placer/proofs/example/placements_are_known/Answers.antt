use Rattle.std.proofs.Common.{rules}
use Rattle.placer.proofs.Rounds.{placements_known}
use Rattle.placer.proofs.example.placements_are_known.Goals as goal

pub returns : goal.returns
returns c = record { told = search rules; known = placements_known }
