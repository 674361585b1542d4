-- The first answer of a function over the numbers from 0 up. Assumes nothing.
--     or_else a b         a, or b where a is none
--     first_below f n     the first answer among f 0 to f (n - 1), or none
--     First f n r         r is that answer, given at some number below n and at none before it
use Rattle.std.specs.Prelude.{◌≡◌, ℕ, zero, suc, ◌<◌, Some, None, Option}

abbrev pub or_else : {A : Type 0} → Option A → Option A → Option A
or_else None b = b
or_else (Some a) b = Some a

abbrev pub first_below : {A : Type 0} → (ℕ → Option A) → ℕ → Option A
first_below f zero = None
first_below f (suc n) = or_else (first_below f n) (f n)

pub record First {A : Type 0} (f : ℕ → Option A) (n : ℕ) (r : A) : Type 0 where
  pub at : ℕ
  pub below : at < n
  pub given : f at ≡ Some r
  pub before : (k : ℕ) → k < at → f k ≡ None
