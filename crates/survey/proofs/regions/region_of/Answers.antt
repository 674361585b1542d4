use Rattle.std.proofs.Common.{◌≡◌, ◌+◌, ◌<◌, ◌%◌, true, false, slice_index_or, subst, sym, rules, arith}
use Rattle.std.proofs.Math.Nat.{mod-lt}
use Rattle.survey.specs.Counted.{Chosen, Counted, Counted.none}
use Rattle.survey.proofs.Regioning.{counted_few, counted_true, counted_false}
use Rattle.survey.proofs.regions.region_of.Goals as goal
use Rattle.survey.proofs.regions.region_of.Goals.{then-starts-slot, else-starts-slot}

pub loop-slot-init : goal.loop-slot-init
loop-slot-init c = none

pub overflow_add-number : goal.overflow_add-number
overflow_add-number c =
    let few = counted_few (Chosen c.args.starts.now) c.loop-slot.slot c.loop-slot.number c.loop-slot.invariant in
    let inside : c.args.start % 1024 < 1024 = mod-lt c.args.start (omega arith) in
    omega (arith, few, inside, c.loop-slot-test.true)

pub loop-slot-preserved : goal.loop-slot-preserved
loop-slot-preserved c =
    let P = Chosen c.args.starts.now in
    let n = c.loop-slot.slot in
    elim c.if-starts-slot.branch [
      | then-starts-slot w ↦
          let yes : slice_index_or c.args.starts.now n false ≡ true = search rules in
          subst (Counted P (n + 1)) (sym w.number-is) (counted_true P _ n c.loop-slot.number ((λ e. e), (λ e. e)) yes c.loop-slot.invariant)
      | else-starts-slot w ↦
          let no : slice_index_or c.args.starts.now n false ≡ false = search rules in
          subst (Counted P (n + 1)) (sym w.number-is) (counted_false P _ n c.loop-slot.number ((λ e. e), (λ e. e)) no c.loop-slot.invariant)
    ]
