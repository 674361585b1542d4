-- The plain numbers tell the supply that the rig is begun on; the run claims hold of any rig.
use Rattle.std.proofs.Common.{◌∙◌, sym, subst}
use Rattle.rig.specs.Seen.{seen}
use Rattle.yatesorrel_c.specs.Begin.{RigBegun}
use Rattle.yatesorrel_c.proofs.Claiming.{claimed}
use Rattle.yatesorrel_c.proofs.Telling.{one_source}
use Rattle.yatesorrel_c.proofs.Whole.{begun_whole}
use Rattle.yatesorrel_c.proofs.begin.yatesorrel_rig_begin.Goals as goal

pub returns-clause-begun : goal.returns-clause-begun
returns-clause-begun c = λ s e.
    subst (λ t. RigBegun t c.of.result c.of-2.result) (one_source c.in-Some.source s (sym c.in-Some.ensures ∙ e))
    (record { left = seen c.begin.result; whole = begun_whole _ _ c.begin.ensures; begun = c.begin.ensures; written = c.of.ensures.value; told = c.of-2.ensures })

pub returns-in_default-clause-claimed : goal.returns-in_default-clause-claimed
returns-in_default-clause-claimed c = claimed

pub returns-clause-claimed : goal.returns-clause-claimed
returns-clause-claimed c = claimed
