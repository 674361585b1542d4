use Rattle.std.proofs.Common.{◌≡◌, ◌+◌, ◌*◌, ◌≤◌, ◌++◌, length}
use Rattle.survey.specs.Columns.{halved}
use Rattle.survey.proofs.columns.halved.Given as goal

-- what is joined and what is left make the whole
abbrev pub invariant-loop-rest : goal.invariant-loop-rest
invariant-loop-rest l =
    record {
      whole : l.list.items ++ halved l.rest ≡ halved l.fn.columns;
      few : length l.list.items * 2 + length l.rest ≤ length l.fn.columns;
    }

abbrev pub decreases-loop-rest : goal.decreases-loop-rest
decreases-loop-rest l = length l.rest
