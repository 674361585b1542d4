-- A capacitor that was made is the supply that its word names.
use Rattle.std.proofs.Common.{◌≡◌, ℕ, Ok, Err, Result, MatchResult, IsOkAnd}
use Rattle.inputs.specs.declared.supply.SupplyWord.TheVariants as word
use Rattle.isa.specs.declared.refusal.Refusal.{Refusal}
use Rattle.supply.specs.Capacitor.{Made}
use Rattle.supply.specs.Ratings.{ratings_of}
use Rattle.supply.specs.declared.capacitor.Capacitor.{Capacitor}
use Rattle.supply.specs.declared.source.Source.{Source}
use Rattle.supply.specs.declared.source.Source.TheVariants as source
use Rattle.yatesorrel.specs.Source.{Sourced}

pub sourced_by : (c t b u : ℕ) (made : Result Capacitor Refusal) (r : Result Source Refusal) → Made (ratings_of c t b u) made
    → MatchResult made (λ x. IsOkAnd r (λ s. s ≡ source.Capacitor x)) (λ e. r ≡ Err e) → Sourced (word.Capacitor c t b u) r
sourced_by c t b u (Ok x) (Ok s) h told = rw told h
sourced_by c t b u (Ok x) (Err e) h told = absurd told
sourced_by c t b u (Err e) r h told = rw told h
