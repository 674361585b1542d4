use Rattle.std.proofs.Common.{◌≡◌, ◌+◌, true, false, slice_index_or, subst, sym, rules, arith}
use Rattle.paths.specs.Net.{tabled}
use Rattle.search.specs.Reach.{Reaches}
use Rattle.survey.specs.Counted.{Counted, Counted.none}
use Rattle.survey.proofs.Regioning.{counted_few, counted_true, counted_false}
use Rattle.survey.proofs.regions.size_of.Goals as goal
use Rattle.survey.proofs.regions.size_of.Goals.{then-region-slot, else-region-slot}

pub loop-slot-init : goal.loop-slot-init
loop-slot-init c = none

pub overflow_add-size : goal.overflow_add-size
overflow_add-size c =
    omega (arith, counted_few (Reaches (tabled c.args.nodes.now) c.args.start) c.loop-slot.slot c.loop-slot.size c.loop-slot.invariant, c.loop-slot-test.true)

pub loop-slot-preserved : goal.loop-slot-preserved
loop-slot-preserved c =
    let P = Reaches (tabled c.args.nodes.now) c.args.start in
    let n = c.loop-slot.slot in
    let tells = c.reach_from-region.ensures n c.loop-slot-test.true in
    elim c.if-region-slot.branch [
      | then-region-slot w ↦
          let yes : slice_index_or c.reach_from-region.result n false ≡ true = search rules in
          subst (Counted P (n + 1)) (sym w.size-is) (counted_true P _ n c.loop-slot.size tells yes c.loop-slot.invariant)
      | else-region-slot w ↦
          let no : slice_index_or c.reach_from-region.result n false ≡ false = search rules in
          subst (Counted P (n + 1)) (sym w.size-is) (counted_false P _ n c.loop-slot.size tells no c.loop-slot.invariant)
    ]
