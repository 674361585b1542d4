use Rattle.std.proofs.Common.{take}
use Rattle.claims.specs.Round.{machine_of}
use Rattle.rig.specs.Seen.{seen}
use Rattle.survey.proofs.Tracing.{ShowsRun}
use Rattle.survey.proofs.trace.Trace.of.Given as goal

-- the calls so far are a history, and the columns stand for its moments
abbrev pub invariant-loop-call : goal.invariant-loop-call
invariant-loop-call g l = ShowsRun g.S.Supply (machine_of g.M.PriceModel.means l.round) l.fn.supply (take l.call-index l.calls) (seen l.rig) l.columns.list.items
