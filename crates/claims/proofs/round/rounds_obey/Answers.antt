use Rattle.std.proofs.Common.{rules}
use Rattle.claims.proofs.Rounding.{round_obeys}
use Rattle.claims.proofs.round.rounds_obey.Goals as goal

pub returns : goal.returns
returns c = record { told = search rules; obeys = round_obeys }
