use Rattle.std.proofs.Common.{◌≡◌, List, [], drop, sym, subst, drop_of_length-le}
use Rattle.paths.specs.Net.{tabled}
use Rattle.paths.specs.Fill.{filled, Untouched, Worths}
use Rattle.paths.proofs.Filling.{filled_more, untouched, worths}
use Rattle.paths.proofs.fill.fill.Goals as goal

pub loop-at-preserved : goal.loop-at-preserved
loop-at-preserved g c =
    filled_more g.V.PathValue.kind (tabled c.args.nodes.now) c.args.order.now c.loop-at.at-index
    c.loop-at.worths _ _ c.loop-at-test.true c.fill_node.ensures c.loop-at.invariant

pub returns : goal.returns
returns g c =
    let k = g.V.PathValue.kind in
    let net = tabled c.args.nodes.now in
    let order = c.args.order.now in
    let xs = c.args.worths.now in
    let rest : drop c.loop-at.at-index order ≡ [] = drop_of_length-le order c.loop-at-test.false in
    let e : c.loop-at.worths ≡ filled k net order xs = rw rest at c.loop-at.invariant in
    let U : List g.row.V.Denot → Type 0 = λ ys. Untouched order xs ys k.empty in
    record {
      list = e;
      untouched = subst U (sym e) (untouched k net order xs k.empty);
      worths = λ h o.
          let W : List g.row.V.Denot → Type 0 = λ ys. Worths k h order ys in
          subst W (sym e) (worths k g.met.V.PathValue.laws h c.args.nodes.now order xs o);
    }
