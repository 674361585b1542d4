-- A tape behind the readings that stand before it.
use Rattle.std.proofs.Common.{◌≡◌, ℕ, List, [], ◌∷◌, ◌++◌, Some, None, Result, Ok, Err, refl, ap, sym, ◌∙◌, append_assoc}
use Rattle.std.proofs.lemmas.List.{append-nil}
use Rattle.inputs.specs.Tape.{reading, with_reading, tape_with, tape_of}

abbrev pub behind : List ℕ → Result (List ℕ) ℕ → Result (List ℕ) ℕ
behind readings (Ok more) = Ok (readings ++ more)
behind readings (Err line) = Err line

-- the tape of lines behind readings
abbrev pub tape_behind : List ℕ → List (ℕ × List ℕ) → Result (List ℕ) ℕ
tape_behind readings lines = behind readings (tape_of lines)

nothing_before : (t : Result (List ℕ) ℕ) → behind [] t ≡ t
nothing_before (Ok more) = refl
nothing_before (Err line) = refl

pub tape_behind-nil : (lines : List (ℕ × List ℕ)) → tape_behind [] lines ≡ tape_of lines
tape_behind-nil lines = nothing_before (tape_of lines)

one_more : (readings : List ℕ) (r : ℕ) (t : Result (List ℕ) ℕ) → behind readings (with_reading r t) ≡ behind (readings ++ r ∷ []) t
one_more readings r (Ok more) = ap Ok (sym (append_assoc readings (r ∷ []) more))
one_more readings r (Err line) = refl

pub tape_behind_reading : (readings : List ℕ) (r n : ℕ) (line : List ℕ) (lines : List (ℕ × List ℕ)) → reading line ≡ Some r → tape_behind readings ((n, line) ∷ lines) ≡ tape_behind (readings ++ r ∷ []) lines
tape_behind_reading readings r n line lines is = ap (λ o. behind readings (tape_with n o (tape_of lines))) is ∙ one_more readings r (tape_of lines)

pub tape_behind_wrong : (readings : List ℕ) (n : ℕ) (line : List ℕ) (lines : List (ℕ × List ℕ)) → reading line ≡ None → tape_behind readings ((n, line) ∷ lines) ≡ Err n
tape_behind_wrong readings n line lines is = ap (λ o. behind readings (tape_with n o (tape_of lines))) is

pub tape_behind_end : (readings : List ℕ) → tape_behind readings [] ≡ Ok readings
tape_behind_end readings = ap Ok (append-nil readings)
