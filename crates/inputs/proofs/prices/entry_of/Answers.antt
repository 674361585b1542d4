use Rattle.std.proofs.Common.{sym, ◌∙◌, arith}
use Rattle.inputs.proofs.Entries.{words_begun, word_came, ends_before_name, ends_before_price, no_name, no_price, two_only}
use Rattle.inputs.proofs.prices.entry_of.Goals as goal

pub returns-in_err-next : goal.returns-in_err-next
returns-in_err-next c =
    let s0 = words_begun c.args.line.now c.split_whitespace-words.result c.utf8.line c.split_whitespace-words.ensures.rest in
    c.from_residual.ensures ∙ sym (ends_before_name s0 c.next.new.self c.in_err-next.ensures.steps)

pub returns-in_err-name : goal.returns-in_err-name
returns-in_err-name c =
    let s0 = words_begun c.args.line.now c.split_whitespace-words.result c.utf8.line c.split_whitespace-words.ensures.rest in
    let s1 = word_came s0 c.in_ok-next.field-0 c.next.new.self c.in_ok-next.ensures.steps in
    c.from_residual-in_err-name.ensures ∙ sym (no_name s1 (sym c.name_of.ensures ∙ c.in_err-name.was))

pub returns-in_err-next-2 : goal.returns-in_err-next-2
returns-in_err-next-2 c =
    let s0 = words_begun c.args.line.now c.split_whitespace-words.result c.utf8.line c.split_whitespace-words.ensures.rest in
    let s1 = word_came s0 c.in_ok-next.field-0 c.next.new.self c.in_ok-next.ensures.steps in
    c.from_residual-in_err-next-2.ensures ∙ sym (ends_before_price s1 c.next-2.new.self c.in_err-next-2.ensures.steps)

pub returns-in_err-price : goal.returns-in_err-price
returns-in_err-price c =
    let s0 = words_begun c.args.line.now c.split_whitespace-words.result c.utf8.line c.split_whitespace-words.ensures.rest in
    let s1 = word_came s0 c.in_ok-next.field-0 c.next.new.self c.in_ok-next.ensures.steps in
    let s2 = word_came s1 c.in_ok-next-2.field-0 c.next-2.new.self c.in_ok-next-2.ensures.steps in
    c.from_residual-in_err-price.ensures ∙ sym (no_price s2 (sym c.u16_of.ensures ∙ c.in_err-price.was))

pub returns : goal.returns
returns c =
    let s0 = words_begun c.args.line.now c.split_whitespace-words.result c.utf8.line c.split_whitespace-words.ensures.rest in
    let s1 = word_came s0 c.in_ok-next.field-0 c.next.new.self c.in_ok-next.ensures.steps in
    let s2 = word_came s1 c.in_ok-next-2.field-0 c.next-2.new.self c.in_ok-next-2.ensures.steps in
    let whole = two_only c.in_ok-name.name c.in_ok-price.price s2 (sym c.name_of.ensures ∙ c.in_ok-name.was) (sym c.u16_of.ensures ∙ c.in_ok-price.was) c.next-3.result c.next-3.new.self c.next-3.ensures.steps in
    grind (arith, whole)
