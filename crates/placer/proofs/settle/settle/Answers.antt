use Rattle.std.proofs.Common.{◌≡◌, ℕ, ◌-◌, sym, ap, ◌∙◌, arith}
use Rattle.std.proofs.lemmas.Bool.{cond-true, cond-false}
use Rattle.std.proofs.lemmas.List.{get_or-take}
use Rattle.paths.specs.Net.{no_node}
use Rattle.walks.specs.Placing.{allowed, dropped}
use Rattle.placer.specs.Turned.{marked}
use Rattle.placer.proofs.Settling.{tested, settled_more}
use Rattle.placer.proofs.settle.settle.Goals as goal

pub returns-then-not-fits : goal.returns-then-not-fits
returns-then-not-fits c saving g p inside turns =
    sym (cond-false _ _ _ (sym (tested saving g c.args.plain.now c.args.budget p c.args.turned.now turns c.args.count inside c.fits.result c.fits.ensures) ∙ c.if-not-fits.true))

pub loop-at-preserved : goal.loop-at-preserved
loop-at-preserved c saving g p inside turns =
    let plain = c.args.plain.now in
    let at = c.loop-at.at in
    let here = c.loop-at.invariant saving g p inside turns in
    let node = get_or-take c.args.count plain at no_node (omega arith) in
    let settled = c.settle_at.ensures saving g plain p inside (sym node) here.0 in
    (settled.turns, settled_more saving g plain c.args.budget c.args.count at c.loop-at.turned c.settle_at.new.turned (omega arith) settled ∙ here.1)

pub returns : goal.returns
returns c saving g p inside turns =
    let here = c.loop-at.invariant saving g p inside turns in
    let ok = allowed saving g c.args.budget in
    let end : c.args.count - c.loop-at.at ≡ 0 = omega arith in
    ap (λ (k : ℕ). dropped ok k c.loop-at.at (marked c.loop-at.turned.saves)) (sym end) ∙ here.1
    ∙ sym (cond-true _ _ _ (sym (tested saving g c.args.plain.now c.args.budget p c.args.turned.now turns c.args.count inside c.fits.result c.fits.ensures) ∙ c.if-not-fits.false))
