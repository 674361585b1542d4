-- The plain numbers tell the rig that is cut.
use Rattle.std.proofs.Common.{◌∙◌, ap}
use Rattle.rig.specs.Seen.{rig_on}
use Rattle.yatesorrel_c.specs.Told.{told_in}
use Rattle.yatesorrel_c.specs.Cut.{CutTold}
use Rattle.yatesorrel_c.proofs.Telling.{of_rig, begun, lying, written}
use Rattle.yatesorrel_c.proofs.Whole.{cut_whole}
use Rattle.yatesorrel_c.proofs.cut.yatesorrel_rig_cut.Goals as goal

pub returns-clause-unbegun : goal.returns-clause-unbegun
returns-clause-unbegun c = begun c.args.rig.now c.in-Some.source c.in-Some.ensures

pub returns-clause-cut : goal.returns-clause-cut
returns-clause-cut c = λ r w e.
    let before = rig_on c.in-Some.source c.args.rig.now.standing in
    let after = rig_on c.cut-answer.new.supply c.cut-answer.new.self in
    let left = lying c.of-rig.result c.cut-answer.new.self in
    of_rig (λ s. CutTold s left c.of.result) _ before c.in-Some.ensures.1
    (record {
      answer = c.cut-answer.result;
      left = after;
      whole = cut_whole before after _ c.in-Some.ensures.0 c.cut-answer.ensures;
      cut = c.cut-answer.ensures;
      written = written _ c.cut-answer.new.supply _ c.of-rig.ensures;
      told = c.of.ensures ∙ ap told_in c.err.ensures.value;
    })
    r e
