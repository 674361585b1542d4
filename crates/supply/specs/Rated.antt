-- The ratings of the code, as plain data. Assumes nothing.
--     rated r             the numbers of r, which are within the limits
--     Rated n result      what rating a capacitor at the numbers n answers: those, where they are within the limits, else refusal 13
use Rattle.std.specs.Prelude.{◌≡◌, Ok, Err, Result}
use Rattle.isa.specs.declared.refusal.Refusal.{Refusal}
use Rattle.isa.specs.declared.refusal.Refusal.TheVariants.{SupplyNumbers}
use Rattle.supply.specs.declared.ratings.Ratings.{Ratings as Held}
use Rattle.supply.specs.Ratings.{Ratings, ratings_of, Within}

abbrev pub rated : Held → Ratings
rated r = ratings_of r.microfarads r.top r.bottom r.unit

abbrev pub Rated : Ratings → Result Held Refusal → Type 0
Rated n (Ok r) = Within n × (rated r ≡ n)
Rated n (Err e) = (Within n → ⊥) × (e ≡ SupplyNumbers)
