-- The supply that a word of the command line makes. Assumes nothing.
--     Sourced w r     r is the supply that the word w names, as made: the mains, or a capacitor of its four numbers, or refusal 13
--                     where these are outside their limits
use Rattle.std.specs.Prelude.{◌≡◌, Ok, Err, Result}
use Rattle.inputs.specs.declared.supply.SupplyWord.{SupplyWord}
use Rattle.inputs.specs.declared.supply.SupplyWord.TheVariants as word
use Rattle.isa.specs.declared.refusal.Refusal.{Refusal}
use Rattle.supply.specs.Capacitor.{Made}
use Rattle.supply.specs.Mains.{fresh}
use Rattle.supply.specs.Ratings.{ratings_of}
use Rattle.supply.specs.declared.source.Source.{Source}
use Rattle.supply.specs.declared.source.Source.TheVariants as source

abbrev pub Sourced : SupplyWord → Result Source Refusal → Type 0
Sourced word.Mains r = r ≡ Ok (source.Mains fresh)
Sourced (word.Capacitor microfarads top bottom unit) (Ok (source.Capacitor x)) = Made (ratings_of microfarads top bottom unit) (Ok x)
Sourced (word.Capacitor microfarads top bottom unit) (Ok (source.Mains x)) = ⊥
Sourced (word.Capacitor microfarads top bottom unit) (Err r) = Made (ratings_of microfarads top bottom unit) (Err r)
