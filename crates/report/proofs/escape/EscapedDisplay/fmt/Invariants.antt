use Rattle.std.proofs.Common.{◌≡◌, ℕ, List, ◌++◌}
use Rattle.std.specs.Fmt.{HasWritten, IsPlainFormatter}
use Rattle.std.specs.Str.Iter.{chars_rest}
use Rattle.report.specs.Escape.{escaped}
use Rattle.report.proofs.escape.EscapedDisplay.fmt.Given as goal

-- what is written and what the rest is shown as make the whole
abbrev pub invariant-loop-character : goal.invariant-loop-character
invariant-loop-character g l =
    IsPlainFormatter l.initial.f
    → (done : List ℕ) × HasWritten g.W.Write.write_str_gives l.initial.f done l.f
    × (done ++ escaped (chars_rest l.character-iterator) ≡ escaped l.self.0.now)
