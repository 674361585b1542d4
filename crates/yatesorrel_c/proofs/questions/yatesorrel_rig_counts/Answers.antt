use Rattle.yatesorrel_c.proofs.Telling.{begun}
use Rattle.yatesorrel_c.proofs.questions.yatesorrel_rig_counts.Goals as goal

pub returns-clause-unbegun : goal.returns-clause-unbegun
returns-clause-unbegun c = begun c.args.rig.now _ c.in-Some.ensures
