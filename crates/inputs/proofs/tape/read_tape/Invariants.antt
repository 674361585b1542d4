use Rattle.inputs.specs.Said.{said_lines}
use Rattle.std.proofs.Common.{[]}
use Rattle.inputs.proofs.Lining.{SaidSoFar}
use Rattle.inputs.proofs.Taping.{tape_behind}
use Rattle.inputs.proofs.tape.read_tape.Given as goal

abbrev pub invariant-loop-index : goal.invariant-loop-index
invariant-loop-index l = SaidSoFar (tape_behind l.tape.items) (tape_behind [] (said_lines l.text)) l.index-iterator
