-- The run is computed, and its end compared.
use Rattle.std.proofs.Common.{[], ◌∷◌, sym, refl, subst}
use Rattle.isa.specs.Opcode.{kind_of, singles, classes, joined, access, branch, arithmetic, negation, sizes, tests, operations, under, source_of, code_of, class_of}
use Rattle.machine.specs.Example.{small_round, Known}
use Rattle.machine.specs.Run.{run_of}
use Rattle.machine.specs.Step.{mains_step}
use Rattle.machine.proofs.Runs.{reached}
use Rattle.machine.proofs.example.small_round.Goals as goal

known : Known small_round
unfolding mains_step kind_of singles classes joined access branch arithmetic negation sizes tests operations under source_of code_of class_of
known =
    let led = (reached small_round (5 ∷ []) 6).led in
    record { last = (run_of small_round (5 ∷ []) 6).state; ends = (led.0, led.1, refl); exits = refl; logs = refl; no_more = refl }

pub returns : goal.returns
returns c = record { bytes = c.slots.ensures; known = subst Known (sym c.slots.ensures) known }
