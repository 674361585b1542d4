-- A price as a bar against a budget, in units of the bar. Assumes nothing.
--     bar_length          the length of the longest bar
--     room b              how long the budget is
--     paid b              how much of the price the budget pays, at least 2, so that it is seen
--     unpaid b            how much of it the budget does not pay
use Rattle.std.specs.Prelude.{ℕ, ◌-◌, min, max}
use Rattle.survey.specs.Geometry.{scaled}
use Rattle.survey.specs.declared.bar.Bar.{Bar}

abbrev pub bar_length : ℕ
bar_length = 400

abbrev pub room : Bar → ℕ
room b = scaled b.budget b.whole bar_length

abbrev pub paid : Bar → ℕ
paid b = max (min (scaled b.price b.whole bar_length) (room b)) 2

abbrev pub unpaid : Bar → ℕ
unpaid b = scaled b.price b.whole bar_length - room b
