-- The columns of the charge picture. Assumes nothing.
--     most_columns        how many there are at most
--     Shows cs ms         the columns stand for the moments ms: each for some that follow one another, in their order, and none is left out
--     complete cs         the last column has as many moments as the first, or there is none
--     halved cs           the columns joined two by two
--     joined_on c cs      the column c joined with those of cs, one after another
--     all_of cs           the columns joined into one; an empty one where there are none
use Rattle.std.specs.Prelude.{◌≡◌, ℕ, Bool, List, [], ◌∷◌, ◌++◌, length, nat_le, slice_index_or, ◌-◌}
use Rattle.survey.specs.declared.moment.Moment.{Moment}
use Rattle.survey.specs.declared.column.Column.{Column}
use Rattle.survey.specs.Column.{Gathers, joined}

abbrev pub most_columns : ℕ
most_columns = 240

abbrev pub Shows : List Column → List Moment → Type 0
Shows [] ms = ms ≡ []
Shows (c ∷ cs) ms = (xs : List Moment) × (ys : List Moment) × (ms ≡ xs ++ ys) × Gathers c xs × Shows cs ys

abbrev pub no_column : Column
no_column = record { moments = 0; least = 0; most = 0; saves = 0; falls = 0; cuts = 0 }

abbrev pub complete : List Column → Bool
complete cs = nat_le (slice_index_or cs 0 no_column).moments (slice_index_or cs (length cs - 1) no_column).moments

abbrev pub halved : List Column → List Column
halved [] = []
halved (c ∷ []) = c ∷ []
halved (c ∷ d ∷ cs) = joined c d ∷ halved cs

abbrev pub joined_on : Column → List Column → Column
joined_on c [] = c
joined_on c (d ∷ ds) = joined_on (joined c d) ds

abbrev pub all_of : List Column → Column
all_of [] = no_column
all_of (c ∷ cs) = joined_on c cs
