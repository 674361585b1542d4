-- Supplies in plain numbers. Assumes nothing.
--     plain_capacitor x, plain_mains x     the plain numbers of a capacitor and of the mains, which have no ratings and no energy
--     plain_supply s                       those of either
--     Unmade p                             no supply has the plain numbers p
--     CapacitorIn p o, MainsIn p o, SupplyIn p o     o is the supply whose plain numbers p are; or none, where no such supply has them
--     CapacitorMade r old new t     making a capacitor of ratings r: within the limits it is made new, at its floor, and t tells no
--                                   refusal; else t tells refusal 13, and the plain numbers stay
use Rattle.std.specs.Prelude.{◌≡◌, Some, None, Option}
use Rattle.isa.specs.declared.refusal.Refusal.TheVariants.{SupplyNumbers}
use Rattle.supply.specs.Capacitor.{condition_of, fresh}
use Rattle.supply.specs.Ratings.{Ratings, Within}
use Rattle.yatesorrel_c.specs.declared.told.PlainTold.{PlainTold}
use Rattle.yatesorrel_c.specs.Told.{told_in}
use Rattle.supply.specs.declared.capacitor.Capacitor.{Capacitor}
use Rattle.supply.specs.declared.mains.Mains.{Mains}
use Rattle.supply.specs.declared.source.Source.{Source}
use Rattle.supply.specs.declared.source.Source.TheVariants as source
use Rattle.yatesorrel_c.specs.declared.supplies.PlainSupply.{PlainSupply}

abbrev pub plain_capacitor : Capacitor → PlainSupply
plain_capacitor x =
    record {
      kind = 1;
      microfarads = x.ratings.microfarads;
      top = x.ratings.top;
      bottom = x.ratings.bottom;
      unit = x.ratings.unit;
      energy = x.energy;
      asked = x.asked;
      charges = x.charges;
    }

abbrev pub plain_mains : Mains → PlainSupply
plain_mains x = record { kind = 2; microfarads = 0; top = 0; bottom = 0; unit = 0; energy = 0; asked = x.asked; charges = x.charges }

abbrev pub plain_supply : Source → PlainSupply
plain_supply (source.Capacitor x) = plain_capacitor x
plain_supply (source.Mains x) = plain_mains x

abbrev pub CapacitorIn : PlainSupply → Option Capacitor → Type 0
CapacitorIn p None = (x : Capacitor) → p ≡ plain_capacitor x → ⊥
CapacitorIn p (Some x) = p ≡ plain_capacitor x

abbrev pub MainsIn : PlainSupply → Option Mains → Type 0
MainsIn p None = (x : Mains) → p ≡ plain_mains x → ⊥
MainsIn p (Some x) = p ≡ plain_mains x

abbrev pub Unmade : PlainSupply → Type 0
Unmade p = (s : Source) → p ≡ plain_supply s → ⊥

abbrev pub SupplyIn : PlainSupply → Option Source → Type 0
SupplyIn p None = Unmade p
SupplyIn p (Some s) = p ≡ plain_supply s

pub data CapacitorMade (r : Ratings) (old new : PlainSupply) (t : PlainTold) : Type 0 where
  made : Within r → (x : Capacitor) → condition_of x ≡ fresh r → new ≡ plain_capacitor x → t ≡ told_in None → CapacitorMade r old new t
  refused : (Within r → ⊥) → new ≡ old → t ≡ told_in (Some SupplyNumbers) → CapacitorMade r old new t
