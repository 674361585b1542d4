-- What a capacitor is rated at, and the energies that follow from it. Every energy is twice the energy in picojoules, which is
-- the capacity in microfarads times the square of the voltage in millivolts. Assumes nothing.
--     r.microfarads, r.top, r.bottom, r.unit     capacity, the voltages between which it works, the energy of a unit in picojoules
--     ratings_of c top bottom unit     the ratings of these numbers
--     Within r                the limits of a capacitor's numbers
--     energy_at r v           its energy at v millivolts
--     floor_of r, full_of r   its energy at the bottom and at the top
--     energy_of r n           the energy of n units
--     units_in r e            the whole units that energy e has above the floor
--     budget_of r             the units in a full one
use Rattle.std.specs.Prelude.{ℕ, ◌-◌, ◌*◌, ◌/◌, ◌<◌, ◌≤◌}

pub record Ratings : Type 0 where
  pub microfarads : ℕ
  pub top : ℕ
  pub bottom : ℕ
  pub unit : ℕ

abbrev pub ratings_of : ℕ → ℕ → ℕ → ℕ → Ratings
ratings_of c top bottom unit = record { microfarads = c; top = top; bottom = bottom; unit = unit }

pub record Within (r : Ratings) : Type 0 where
  pub some_capacity : 1 ≤ r.microfarads
  pub most_capacity : r.microfarads ≤ 100000
  pub apart : r.bottom < r.top
  pub most_voltage : r.top ≤ 10000
  pub some_unit : 1 ≤ r.unit
  pub most_unit : r.unit ≤ 1000000

abbrev pub energy_at : Ratings → ℕ → ℕ
energy_at r v = r.microfarads * (v * v)

abbrev pub floor_of : Ratings → ℕ
floor_of r = energy_at r r.bottom

abbrev pub full_of : Ratings → ℕ
full_of r = energy_at r r.top

abbrev pub energy_of : Ratings → ℕ → ℕ
energy_of r n = n * (2 * r.unit)

abbrev pub units_in : Ratings → ℕ → ℕ
units_in r e = (e - floor_of r) / (2 * r.unit)

abbrev pub budget_of : Ratings → ℕ
budget_of r = units_in r (full_of r)
