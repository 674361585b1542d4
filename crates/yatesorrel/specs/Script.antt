-- The calls that a rehearsal makes. Assumes nothing.
--     cuts_at cuts n       a cut for each number of cuts that is n
--     script_of cuts n     n steps, and before each of them the cuts at the number of steps before it
use Rattle.std.specs.Prelude.{ℕ, zero, suc, nat_eq, List, [], ◌∷◌, ◌++◌, if◌then◌else◌}
use Rattle.claims.specs.declared.call.Call.{Call}
use Rattle.claims.specs.declared.call.Call.TheVariants.{Step, Cut}

abbrev pub cuts_at : List ℕ → ℕ → List Call
cuts_at [] n = []
cuts_at (cut ∷ more) n = if nat_eq cut n then Cut ∷ cuts_at more n else cuts_at more n

abbrev pub script_of : List ℕ → ℕ → List Call
script_of cuts zero = []
script_of cuts (suc n) = (script_of cuts n ++ cuts_at cuts n) ++ Step ∷ []
