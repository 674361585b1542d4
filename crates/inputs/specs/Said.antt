-- The lines of a text file that say something.
--
-- says_nothing line  whether a trimmed line is blank or begins with #
-- said_from n lines  the lines that say something, trimmed, each with its number, where the first of them is line n
-- said_lines text    those of a text, counted from 1
use Rattle.std.specs.Prelude.{ℕ, ◌+◌, Bool, ◌||◌, ◌==◌, List, [], ◌∷◌, length, slice_index, if◌then◌else◌}
use Rattle.std.specs.Str.{trim}
use Rattle.std.specs.Str.Lines.{lines}

abbrev pub says_nothing : List ℕ → Bool
says_nothing line = length line == 0 || slice_index line 0 == 35

abbrev pub said_from : ℕ → List (List ℕ) → List (ℕ × List ℕ)
said_from n [] = []
said_from n (line ∷ more) = if says_nothing (trim line) then said_from (n + 1) more else (n, trim line) ∷ said_from (n + 1) more

abbrev pub said_lines : List ℕ → List (ℕ × List ℕ)
said_lines text = said_from 1 (lines text)
