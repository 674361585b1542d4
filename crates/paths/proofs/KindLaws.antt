-- The laws that the two kinds of path value keep, by name.
use Rattle.paths.specs.Kind.{Laws}
use Rattle.paths.specs.Price.{price_kind}
use Rattle.paths.specs.Worth.{worth_kind}
use Rattle.paths.specs.contracts.price.PricePathValue.TheImpl.Laws as of_price
use Rattle.paths.specs.contracts.worth.WorthPathValue.TheImpl.Laws as of_worth

pub price_laws : Laws price_kind
price_laws = of_price.laws-law

pub worth_laws : Laws worth_kind
worth_laws = of_worth.laws-law
