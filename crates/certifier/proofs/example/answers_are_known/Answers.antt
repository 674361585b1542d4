use Rattle.std.proofs.Common.{refl}
use Rattle.certifier.proofs.Rounds.{answers_known}
use Rattle.certifier.proofs.example.answers_are_known.Goals as goal

pub returns : goal.returns
returns c = record { told = refl; known = answers_known }
