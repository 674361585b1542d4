-- Prices in plain numbers. Assumes nothing.
--     model_in p       the model that the plain prices p mean: the operand model by kind 0, their list by kind 1, else none
--     Priced p o       o is prices that mean this model, or none where there is none
use Rattle.std.specs.Prelude.{◌≡◌, if◌then◌else◌, Some, None, Option, nat_eq}
use Rattle.pricing.specs.Flat.{flat}
use Rattle.pricing.specs.Model.{Model}
use Rattle.pricing.specs.Operand.{operand}
use Rattle.yatesorrel_c.specs.Lent.{lent_model}
use Rattle.yatesorrel_c.specs.declared.lent.LentPrices.{LentPrices}
use Rattle.yatesorrel_c.specs.declared.prices.PlainPrices.{PlainPrices}

abbrev pub model_in : PlainPrices → Option Model
model_in p = if nat_eq p.kind 0 then Some operand else if nat_eq p.kind 1 then Some (flat p.flat) else None

abbrev pub Priced : PlainPrices → Option LentPrices → Type 0
Priced p None = model_in p ≡ None
Priced p (Some x) = model_in p ≡ Some (lent_model x)
