use Rattle.std.proofs.Common.{◌≡◌, ◌<◌, Some, None, get_or, is_none, length, below_more, arith, ap, sym, ◌∙◌}
use Rattle.std.proofs.lemmas.List.{length-set, get_or-set_other, get_or-set_same}
use Rattle.std.proofs.lemmas.Result.{err_from_is_err_and}
use Rattle.inputs.specs.declared.prices.PricesError.TheVariants.{Missing}
use Rattle.inputs.specs.Prices.{name_at}
use Rattle.inputs.proofs.Wholes.{first_missing, all_known}
use Rattle.inputs.proofs.prices.Sheet.whole.Goals as goal

pub returns-in_err-prices : goal.returns-in_err-prices
returns-in_err-prices c =
    let e = err_from_is_err_and c.from_residual.result c.from_residual.ensures.1 in
    let missing : get_or c.args.self.now.prices c.loop-place.place None ≡ None = grind arith in
    let told = first_missing c.args.self.now.prices c.loop-place.place (omega arith) (λ j l. ap is_none (c.loop-place.invariant.1 j l)) missing in
    let is : c.in_err-prices.field-0.0 ≡ Missing (name_at c.loop-place.place) = grind arith in
    rw (e.1, e.2, is) (sym told)

pub returns : goal.returns
returns c = sym (all_known c.args.self.now.prices c.loop-place.prices (omega arith) (λ k l. c.loop-place.invariant.1 k (omega arith)))

pub loop-place-preserved : goal.loop-place-preserved
loop-place-preserved c =
    let known : get_or c.args.self.now.prices c.loop-place.place None ≡ Some c.in_ok-prices.field-0 = grind arith in
    let inside : c.loop-place.place < length c.loop-place.prices = omega arith in (
      length-set c.loop-place.prices c.loop-place.place c.in_ok-prices.field-0 ∙ c.loop-place.invariant.0,
      below_more _ _
          (λ k l. c.loop-place.invariant.1 k l ∙ ap Some (sym (get_or-set_other c.loop-place.prices c.loop-place.place k c.in_ok-prices.field-0 0 (omega arith))))
          (known ∙ ap Some (sym (get_or-set_same c.loop-place.prices c.loop-place.place c.in_ok-prices.field-0 0 inside))),
    )
