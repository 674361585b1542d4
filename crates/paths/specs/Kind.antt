-- A kind of path value: what a list of slots is worth. Assumes nothing.
--     PathKind V           a kind whose values are those of V
--     k.empty              the value of no slots
--     k.join x y           two values joined
--     k.extend x s p       x extended by slot s at price p
--     Associative k, Commutative k, Idempotent k     the laws of joining
--     Spreads k            extending a joining equals joining the extended values
--     Laws k               all these
use Rattle.std.specs.Prelude.{◌≡◌, ℕ}

pub record PathKind (V : Type 0) : Type 0 where
  pub empty : V
  pub join : V → V → V
  pub extend : V → ℕ → ℕ → V

module _ {V : Type 0} (k : PathKind V) where
  abbrev pub Associative : Type 0
  Associative = (x y z : V) → k.join (k.join x y) z ≡ k.join x (k.join y z)

  abbrev pub Commutative : Type 0
  Commutative = (x y : V) → k.join x y ≡ k.join y x

  abbrev pub Idempotent : Type 0
  Idempotent = (x : V) → k.join x x ≡ x

  abbrev pub Spreads : Type 0
  Spreads = (x y : V) (s p : ℕ) → k.extend (k.join x y) s p ≡ k.join (k.extend x s p) (k.extend y s p)

  pub record Laws : Type 0 where
    pub associative : Associative
    pub commutative : Commutative
    pub idempotent : Idempotent
    pub spreads : Spreads
