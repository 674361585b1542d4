-- The plain numbers tell the supply, and the prices tell the model.
use Rattle.std.proofs.Common.{IfSome, ◌∙◌, sym, subst}
use Rattle.rig.specs.Seen.{seen}
use Rattle.supply.specs.declared.source.Source.{Source}
use Rattle.yatesorrel_c.specs.Rehearse.{ScriptDone}
use Rattle.yatesorrel_c.specs.Lent.{lent_model}
use Rattle.yatesorrel_c.proofs.Telling.{one_source}
use Rattle.yatesorrel_c.proofs.Whole.{rehearsed_whole}
use Rattle.yatesorrel_c.proofs.rehearse.yatesorrel_rehearse.Goals as goal

pub returns-clause-rehearsed : goal.returns-clause-rehearsed
returns-clause-rehearsed c = λ s e k.
    let args = c.args in
    let after = c.rehearse-held.new.replies in
    subst (λ o. IfSome o (λ m. ScriptDone m args.image.now args.tape.now s args.calls.now args.replies.now after c.of.result c.of-2.result))
    (sym c.in-Some-prices.ensures)
    (subst
    (λ (t : Source).
    ScriptDone (lent_model c.in-Some-prices.prices) args.image.now args.tape.now t args.calls.now args.replies.now after c.of.result c.of-2.result)
    (one_source c.in-Some.source s (sym c.in-Some.ensures ∙ e))
    (record {
      left = seen c.rehearse-held.result;
      whole = rehearsed_whole _ _ _ c.rehearse-held.ensures.history;
      rehearsed = c.rehearse-held.ensures;
      written = c.of.ensures.value;
      told = c.of-2.ensures;
    }))
