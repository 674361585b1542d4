-- The run claims hold of a rig on either supply.
use Rattle.std.proofs.Common.{rules}
use Rattle.supply.specs.Supply.{Recharged}
use Rattle.claims.specs.Claims.{RunClaims}
use Rattle.claims.proofs.Claiming.{run_claims}
use Rattle.claims.proofs.Invariant.{Keeps}
use Rattle.supply.specs.declared.source.Source.{Source}
use Rattle.supply.specs.declared.source.Source.TheVariants.{Capacitor, Mains}
use Rattle.supply.specs.Either.{keeps_either}
use Rattle.yatesorrel_c.specs.Held.{sources}
use Rattle.supply.specs.Source.{four_of, Fills}

fills_either : (s t : Source) → Fills s t → Recharged (four_of s) (four_of t)
fills_either (Capacitor x) (Capacitor y) d = search rules
fills_either (Capacitor x) (Mains y) d = absurd d
fills_either (Mains x) (Capacitor y) d = absurd d
fills_either (Mains x) (Mains y) d = search rules

keeps : Keeps sources
keeps = record { drawn = λ s t n a d. keeps_either s t n a d; recharged = λ s t d. fills_either s t d }

pub claimed : RunClaims sources
claimed = run_claims sources keeps
