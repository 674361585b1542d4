-- The prices that a person chooses. Assumes nothing.
--     model_of p     the model that p means
use Rattle.pricing.specs.Flat.{flat}
use Rattle.pricing.specs.Model.{Model}
use Rattle.pricing.specs.Operand.{operand}
use Rattle.pricing.specs.declared.prices.Prices.{Prices}
use Rattle.pricing.specs.declared.prices.Prices.TheVariants.{Operand, Flat}

abbrev pub model_of : Prices → Model
model_of Operand = operand
model_of (Flat m) = flat m.prices
