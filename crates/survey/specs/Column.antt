-- A column of the charge picture, and the moments that it stands for. Assumes nothing.
--     capped n            a count, which stops at the largest number
--     counted p ms        how many of the moments have an event that p tells
--     Met n ms            one of the moments has the charge n
--     Gathers c ms        the column c stands for the moments ms: its least and its greatest charge are theirs, and its counts too
--     joined c d          the column that stands for what c does and then what d does
use Rattle.std.specs.Prelude.{◌≡◌, ℕ, ◌+◌, ◌-◌, ◌^◌, ◌≤◌, min, max, Bool, if◌then◌else◌, List, [], ◌∷◌, length, All}
use Rattle.paths.specs.Net.{In}
use Rattle.survey.specs.declared.moment.Event.{Event}
use Rattle.survey.specs.declared.moment.Moment.{Moment}
use Rattle.survey.specs.declared.column.Column.{Column}
use Rattle.survey.specs.Moment.{is_saved, is_fallen, is_cut}

abbrev pub capped : ℕ → ℕ
capped n = min n (2 ^ 64 - 1)

abbrev pub counted : (Event → Bool) → List Moment → ℕ
counted p [] = 0
counted p (m ∷ ms) = (if p m.event then 1 else 0) + counted p ms

abbrev pub Met : ℕ → List Moment → Type 0
Met n ms = (m : Moment) × In m ms × (m.charge ≡ n)

pub record Gathers (c : Column) (ms : List Moment) : Type 0 where
  pub moments : c.moments ≡ capped (length ms)
  pub least : All (λ m. c.least ≤ m.charge) ms
  pub least_met : Met c.least ms
  pub most : All (λ m. m.charge ≤ c.most) ms
  pub most_met : Met c.most ms
  pub saves : c.saves ≡ capped (counted is_saved ms)
  pub falls : c.falls ≡ capped (counted is_fallen ms)
  pub cuts : c.cuts ≡ capped (counted is_cut ms)

abbrev pub joined : Column → Column → Column
joined c d =
    record {
      moments = capped (c.moments + d.moments);
      least = min c.least d.least;
      most = max c.most d.most;
      saves = capped (c.saves + d.saves);
      falls = capped (c.falls + d.falls);
      cuts = capped (c.cuts + d.cuts);
    }
