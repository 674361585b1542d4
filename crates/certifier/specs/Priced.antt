-- The prices of the two kinds of path value. Assumes nothing.
--     price_of_price x, price_of_worth x     the price of a value
use Rattle.std.specs.Prelude.{ℕ}
use Rattle.paths.specs.declared.price.Price.{Price}
use Rattle.paths.specs.declared.worth.Worth.{Worth}

abbrev pub price_of_price : Price → ℕ
price_of_price x = x.price

abbrev pub price_of_worth : Worth → ℕ
price_of_worth x = x.price
