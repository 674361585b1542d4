use Rattle.std.proofs.Common.{rules}
use Rattle.claims.proofs.Claiming.{machine_claims, run_claims}
use Rattle.claims.proofs.Invariant.{Keeps}
use Rattle.claims.proofs.claims.claims_hold.Goals as goal

pub returns : goal.returns
returns g c =
    let keeps : Keeps g.S.Supply = record { drawn = g.met.S.Supply.drawn; recharged = g.met.S.Supply.recharged } in
    record { told = search rules; machines = machine_claims g.S.Supply keeps; rounds = run_claims g.S.Supply keeps }
