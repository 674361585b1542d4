use Rattle.std.proofs.Common.{◌≡◌, drop}
use Rattle.survey.specs.Columns.{joined_on}
use Rattle.survey.proofs.columns.joined_on.Given as goal

-- what is left, joined to what is joined so far, makes the whole
abbrev pub invariant-loop-column : goal.invariant-loop-column
invariant-loop-column l = joined_on l.all (drop l.column-index l.others) ≡ joined_on l.fn.first l.others
