-- The tape that a text writes: a reading a line.
--
-- reading line      the reading that a line says, a number below 2^32, if it is one
-- with_reading r t  the tape t with the reading r put first; what is wrong with t stays
-- tape_with n r t   the tape of line n, which says the reading r or none, and of the lines behind it, t
-- tape_of lines     the readings of the said lines in order, or the number of the first line that is no reading
-- TapeTold lines r  r is the tape of these lines, or the number of the wrong line, unless memory ran out
use Rattle.std.specs.Prelude.{◌≡◌, ℕ, ◌^◌, List, [], ◌∷◌, Option, Some, None, Result, Ok, Err, Vec, ⊤}
use Rattle.inputs.specs.declared.tape.TapeError.{TapeError}
use Rattle.inputs.specs.declared.tape.TapeError.TheVariants.{Line, OutOfMemory}
use Rattle.inputs.specs.Number.{number}

abbrev pub reading : List ℕ → Option ℕ
reading line = number 10 (2 ^ 32) line

abbrev pub with_reading : ℕ → Result (List ℕ) ℕ → Result (List ℕ) ℕ
with_reading r (Ok readings) = Ok (r ∷ readings)
with_reading r (Err line) = Err line

abbrev pub tape_with : ℕ → Option ℕ → Result (List ℕ) ℕ → Result (List ℕ) ℕ
tape_with n (Some r) t = with_reading r t
tape_with n None t = Err n

abbrev pub tape_of : List (ℕ × List ℕ) → Result (List ℕ) ℕ
tape_of [] = Ok []
tape_of ((n, line) ∷ more) = tape_with n (reading line) (tape_of more)

abbrev pub TapeTold : {A : Type 0} → List (ℕ × List ℕ) → Result (Vec ℕ A) TapeError → Type 0
TapeTold lines (Ok tape) = tape_of lines ≡ Ok tape.items
TapeTold lines (Err (Line n)) = tape_of lines ≡ Err n
TapeTold lines (Err OutOfMemory) = ⊤
