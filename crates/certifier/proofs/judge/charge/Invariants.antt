use Rattle.std.proofs.Common.{◌≡◌, None}
use Rattle.isa.specs.First.{first_below}
use Rattle.certifier.specs.Judge.{over_at}
use Rattle.certifier.proofs.judge.charge.Given as goal

abbrev pub invariant-loop-at : goal.invariant-loop-at
invariant-loop-at g l = first_below (over_at g.V.Priced.price g.V.PathValue.kind.empty l.worths l.starts l.budget) l.at ≡ None
