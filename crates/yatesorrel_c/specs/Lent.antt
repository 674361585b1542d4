-- The prices that a caller lends. Assumes nothing.
--     lent_model p     the model that p means
use Rattle.pricing.specs.Flat.{flat}
use Rattle.pricing.specs.Model.{Model}
use Rattle.pricing.specs.Operand.{operand}
use Rattle.yatesorrel_c.specs.declared.lent.LentPrices.{LentPrices}
use Rattle.yatesorrel_c.specs.declared.lent.LentPrices.TheVariants.{Operand, Flat}

abbrev pub lent_model : LentPrices → Model
lent_model Operand = operand
lent_model (Flat l) = flat l.prices.now
