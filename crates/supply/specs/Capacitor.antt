-- A capacitor as a supply. Assumes nothing.
--     Condition            the condition of a capacitor: its ratings, its energy, the units asked of it and its charges
--     condition_of x       the one that x is in
--     fresh r              as made: at its floor, never asked nor charged
--     Made r result        what making one of ratings r answers: a fresh one where they are within the limits, else refusal 13
--     suffices k n         n units can be taken, and the energy stays at its floor or above
--     answer_to k n        yes exactly then
--     drawn k n            the condition after a draw of n units: a yes takes their energy, a no leaves the floor
--     filled k             the condition after a charge: full
--     Drew x n answer y    a draw of n units answers so, and makes y of x
--     four_in k            the four numbers that a capacitor in condition k means
use Rattle.std.specs.Prelude.{◌≡◌, ℕ, ◌+◌, ◌-◌, ◌%◌, ◌^◌, Bool, if◌then◌else◌, Ok, Err, Result, nat_le}
use Rattle.isa.specs.declared.refusal.Refusal.{Refusal}
use Rattle.isa.specs.declared.refusal.Refusal.TheVariants.{SupplyNumbers}
use Rattle.supply.specs.declared.answer.Answer.{Answer}
use Rattle.supply.specs.declared.answer.Answer.TheVariants.{Yes, No}
use Rattle.supply.specs.declared.capacitor.Capacitor.{Capacitor}
use Rattle.supply.specs.Rated.{rated}
use Rattle.supply.specs.Ratings.{Ratings, Within, floor_of, full_of, energy_of, units_in, budget_of}
use Rattle.supply.specs.Supply.{Four}

pub record Condition : Type 0 where
  pub ratings : Ratings
  pub energy : ℕ
  pub asked : ℕ
  pub charges : ℕ

abbrev pub condition_of : Capacitor → Condition
condition_of x = record { ratings = rated x.ratings; energy = x.energy; asked = x.asked; charges = x.charges }

abbrev pub fresh : Ratings → Condition
fresh r = record { ratings = r; energy = floor_of r; asked = 0; charges = 0 }

abbrev pub Made : Ratings → Result Capacitor Refusal → Type 0
Made r (Ok x) = Within r × (condition_of x ≡ fresh r)
Made r (Err e) = (Within r → ⊥) × (e ≡ SupplyNumbers)

-- a sum, since a difference of natural numbers stops at 0
abbrev pub suffices : Condition → ℕ → Bool
suffices k n = nat_le (floor_of k.ratings + energy_of k.ratings n) k.energy

abbrev pub answer_to : Condition → ℕ → Answer
answer_to k n = if suffices k n then Yes else No

abbrev pub drawn : Condition → ℕ → Condition
drawn k n =
    record {
      ratings = k.ratings;
      energy = if suffices k n then k.energy - energy_of k.ratings n else floor_of k.ratings;
      asked = (k.asked + n) % 2 ^ 64;
      charges = k.charges;
    }

abbrev pub filled : Condition → Condition
filled k = record { ratings = k.ratings; energy = full_of k.ratings; asked = k.asked; charges = (k.charges + 1) % 2 ^ 64 }

pub record Drew (x : Capacitor) (n : ℕ) (answer : Answer) (y : Capacitor) : Type 0 where
  pub answers : answer ≡ answer_to (condition_of x) n
  pub leaves : condition_of y ≡ drawn (condition_of x) n

abbrev pub four_in : Condition → Four
four_in k =
    record {
      budget = budget_of k.ratings;
      assured = units_in k.ratings k.energy;
      asked = k.asked;
      charges = k.charges;
    }
