use Rattle.std.proofs.Common.{ℕ, Bool, List, Some, None, Option, rules}
use Rattle.std.specs.Prelude.{IsSome}
use Rattle.paths.specs.Net.{Net}
use Rattle.search.specs.Reach.{Looped}
use Rattle.search.specs.Loops.{Lowest}
use Rattle.certifier.proofs.judge.lowest_loop.Goals as goal

found : (g : Net) (starts : List Bool) (r : Option ℕ) → Lowest g starts r → (n : ℕ) × Looped g starts n → IsSome r
found g starts (Some m) lowest looped = search rules
found g starts None none (n, looped) = absurd (none n looped)

pub unwrap-requires : goal.unwrap-requires
unwrap-requires c = found _ _ _ c.lowest_looped.ensures c.requires
