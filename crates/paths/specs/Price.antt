-- Prices of path values, and the kind of path value that is a price. Assumes nothing.
--     added x p              a sum of prices, which stops at 2^64 - 1
--     price_kind             the kind: joined by the greater
--     Saturates k price      the values of a kind have prices: joined by the greater, and summed, but stopping at 2^64 - 1
use Rattle.std.specs.Prelude.{◌≡◌, ℕ, ◌+◌, ◌-◌, ◌^◌, min, max}
use Rattle.paths.specs.declared.price.Price.{Price}
use Rattle.paths.specs.Kind.{PathKind}

abbrev pub added : ℕ → ℕ → ℕ
added x p = min (x + p) (2 ^ 64 - 1)

abbrev pub priced : ℕ → Price
priced p = record { price = p }

abbrev pub price_kind : PathKind Price
price_kind =
    record {
      empty = priced 0;
      join = λ x y. priced (max x.price y.price);
      extend = λ x s p. priced (added x.price p);
    }

pub record Saturates {V : Type 0} (k : PathKind V) (price : V → ℕ) : Type 0 where
  pub at_empty : price k.empty ≡ 0
  pub at_join : (x y : V) → price (k.join x y) ≡ max (price x) (price y)
  pub at_extend : (x : V) (s p : ℕ) → price (k.extend x s p) ≡ added (price x) p
