use Rattle.std.proofs.Common.{rules}
use Rattle.certifier.proofs.Rounds.{answers_known}
use Rattle.placer.proofs.Rounds.{placements_known}
use Rattle.worked.proofs.Counts.{straight, interrupted}
use Rattle.worked.proofs.known.rounds_are_known.Goals as goal

pub returns : goal.returns
returns c = record { told = search rules; certified = answers_known; placed = placements_known; straight = straight; interrupted = interrupted }
