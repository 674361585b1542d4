use Rattle.std.proofs.Common.{◌≡◌, ◌+◌, Some, None, Err, rules, ap, sym, subst, ◌∙◌}
use Rattle.std.proofs.lemmas.Result.{err_from_is_err_and}
use Rattle.std.specs.Prelude.{replicate}
use Rattle.std.specs.Str.{trim}
use Rattle.inputs.specs.declared.prices.PricesError.TheVariants.{Line}
use Rattle.inputs.specs.Said.{said_lines}
use Rattle.inputs.specs.Prices.{entry_of, entered, prices_of, PricesRight}
use Rattle.inputs.proofs.Lining.{lines_begun, line_passed, line_read, line_wrong, lines_ended, said_some, said_none}
use Rattle.inputs.proofs.Listing.{prices_behind, prices_behind_entry, prices_behind_wrong}
use Rattle.inputs.proofs.PriceLists.{prices_right}
use Rattle.inputs.proofs.prices.read_prices.Goals.{After-from_residual, After-whole}
use Rattle.inputs.proofs.prices.read_prices.Goals as goal

pub loop-index-init : goal.loop-index-init
loop-index-init c =
    lines_begun (prices_behind (replicate 257 None)) c.args.text.now c.into_iter-index-iterator.result (search rules) (search rules)

pub loop-index-preserved-in-Continue-1 : goal.loop-index-preserved-in-Continue-1
loop-index-preserved-in-Continue-1 c =
    let (something, trimmed) = said_some _ _ _ c.in-Some-said.ensures in
    let read : entered c.loop-index.sheet.prices (entry_of (trim c.in-Some.line.now)) ≡ Some c.enter.new.self.prices =
    ap (λ l. entered c.loop-index.sheet.prices (entry_of l)) (sym trimmed) ∙ c.in_ok-enter.ensures in
    line_read c.loop-index.invariant (c.in-Some.index, c.in-Some.line) c.next.new.self c.in-Some.ensures.steps something (prices_behind c.enter.new.self.prices)
    (λ n ls. prices_behind_entry c.loop-index.sheet.prices c.enter.new.self.prices n (trim c.in-Some.line.now) ls read)

refused : (c : After-from_residual) → c.from_residual.result ≡ prices_of (said_lines c.args.text.now)
refused c =
    let (something, trimmed) = said_some _ _ _ c.in-Some-said.ensures in
    let (is, none) = c.in_err-enter.ensures in
    let wrong : entered c.loop-index.sheet.prices (entry_of (trim c.in-Some.line.now)) ≡ None =
    ap (λ l. entered c.loop-index.sheet.prices (entry_of l)) (sym trimmed) ∙ none in
    let told = line_wrong c.loop-index.invariant (c.in-Some.index, c.in-Some.line) c.next.new.self c.in-Some.ensures.steps something (Err (Line (c.in-Some.index + 1)))
    (λ ls. prices_behind_wrong c.loop-index.sheet.prices (c.in-Some.index + 1) (trim c.in-Some.line.now) ls wrong) in
    let e = err_from_is_err_and c.from_residual.result c.from_residual.ensures.1 in
    rw (e.1, e.2, is) (sym told)

pub returns-in_err-enter-clause-value : goal.returns-in_err-enter-clause-value
returns-in_err-enter-clause-value c = refused c

pub returns-in_err-enter-clause-right : goal.returns-in_err-enter-clause-right
returns-in_err-enter-clause-right c = subst (PricesRight (said_lines c.args.text.now)) (sym (refused c)) (prices_right (said_lines c.args.text.now))

pub loop-index-preserved : goal.loop-index-preserved
loop-index-preserved c =
    line_passed c.loop-index.invariant (c.in-Some.index, c.in-Some.line) c.next.new.self c.in-Some.ensures.steps (said_none _ _ (rw c.in_default.is at c.said.ensures))

answered : (c : After-whole) → c.whole.result ≡ prices_of (said_lines c.args.text.now)
answered c = c.whole.ensures ∙ sym (lines_ended c.loop-index.invariant c.next.new.self c.in-None.ensures.steps)

pub returns-clause-value : goal.returns-clause-value
returns-clause-value c = answered c

pub returns-clause-right : goal.returns-clause-right
returns-clause-right c = subst (PricesRight (said_lines c.args.text.now)) (sym (answered c)) (prices_right (said_lines c.args.text.now))
