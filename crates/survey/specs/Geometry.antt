-- The places of the charge picture, in whole units of its own. Assumes nothing.
--     scaled part whole length     what a part of a whole takes of a length, rounded down; all of it where the part is more than the whole
--     height_of charge greatest    the height at which a charge is drawn, the greatest at the top
--     edge_of column count         where a column of so many begins
--     ScaledRises                  a larger part takes no less of the length, none takes nothing, and the whole takes all
use Rattle.std.specs.Prelude.{◌≡◌, ℕ, ◌+◌, ◌-◌, ◌*◌, ◌/◌, ◌<◌, ◌≤◌, ◌==◌, min, if◌then◌else◌}

abbrev pub scaled : ℕ → ℕ → ℕ → ℕ
scaled part whole length = if whole == 0 then 0 else min part whole * length / whole

abbrev pub left : ℕ
left = 110

abbrev pub top : ℕ
top = 20

abbrev pub width : ℕ
width = 870

abbrev pub height : ℕ
height = 220

abbrev pub height_of : ℕ → ℕ → ℕ
height_of charge greatest = top + height - scaled charge greatest height

abbrev pub edge_of : ℕ → ℕ → ℕ
edge_of column count = left + scaled column count width

pub record ScaledRises : Type 0 where
  pub none : (whole length : ℕ) → scaled 0 whole length ≡ 0
  pub all : (whole length : ℕ) → 0 < whole → scaled whole whole length ≡ length
  pub rises : (a b whole length : ℕ) → a ≤ b → scaled a whole length ≤ scaled b whole length
