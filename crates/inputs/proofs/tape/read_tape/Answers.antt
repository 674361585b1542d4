use Rattle.std.proofs.Common.{◌≡◌, ◌+◌, [], ◌∷◌, ◌++◌, Some, None, Err, rules, arith, ap, sym, ◌∙◌}
use Rattle.std.proofs.lemmas.Result.{err_from_is_err_and}
use Rattle.std.specs.Str.{trim}
use Rattle.inputs.specs.declared.tape.TapeError.TheVariants.{Line}
use Rattle.inputs.specs.Said.{said_lines}
use Rattle.inputs.specs.Tape.{reading}
use Rattle.inputs.proofs.Lining.{lines_begun, line_passed, line_read, line_wrong, lines_ended, said_some, said_none}
use Rattle.inputs.proofs.Taping.{tape_behind, tape_behind-nil, tape_behind_reading, tape_behind_wrong, tape_behind_end}
use Rattle.inputs.proofs.tape.read_tape.Goals as goal

pub loop-index-init : goal.loop-index-init
loop-index-init c =
    rw c.new-tape.ensures.items (lines_begun (tape_behind []) c.args.text.now c.into_iter-index-iterator.result (search rules) (search rules))

pub returns-in_err-reading : goal.returns-in_err-reading
returns-in_err-reading c =
    let (something, trimmed) = said_some _ _ _ c.in-Some-said.ensures in
    let none : c.u32_of.result ≡ None = grind arith in
    let wrong : reading (trim c.in-Some.line.now) ≡ None = ap reading (sym trimmed) ∙ sym c.u32_of.ensures ∙ none in
    let told = line_wrong c.loop-index.invariant (c.in-Some.index, c.in-Some.line) c.next.new.self c.in-Some.ensures.steps something (Err (c.in-Some.index + 1))
    (λ ls. tape_behind_wrong c.loop-index.tape.items (c.in-Some.index + 1) (trim c.in-Some.line.now) ls wrong) in
    let e = err_from_is_err_and c.from_residual.result c.from_residual.ensures.1 in
    let is : c.in_err-reading.field-0.0 ≡ Line (c.in-Some.index + 1) = grind arith in
    rw (e.1, e.2, is) (sym (tape_behind-nil (said_lines c.args.text.now)) ∙ told)

pub loop-index-preserved-in-Continue-branch-2 : goal.loop-index-preserved-in-Continue-branch-2
loop-index-preserved-in-Continue-branch-2 c =
    let (something, trimmed) = said_some _ _ _ c.in-Some-said.ensures in
    let some : c.u32_of.result ≡ Some c.in_ok-reading.reading = grind arith in
    let read : reading (trim c.in-Some.line.now) ≡ Some c.in_ok-reading.reading = ap reading (sym trimmed) ∙ sym c.u32_of.ensures ∙ some in
    rw c.in_ok-push.ensures.items
    (line_read c.loop-index.invariant (c.in-Some.index, c.in-Some.line) c.next.new.self c.in-Some.ensures.steps something (tape_behind (c.loop-index.tape.items ++ c.in_ok-reading.reading ∷ []))
    (λ n ls. tape_behind_reading c.loop-index.tape.items c.in_ok-reading.reading n (trim c.in-Some.line.now) ls read))

pub loop-index-preserved : goal.loop-index-preserved
loop-index-preserved c =
    line_passed c.loop-index.invariant (c.in-Some.index, c.in-Some.line) c.next.new.self c.in-Some.ensures.steps (said_none _ _ (rw c.in_default.is at c.said.ensures))

pub returns : goal.returns
returns c =
    sym (tape_behind-nil (said_lines c.args.text.now)) ∙ lines_ended c.loop-index.invariant c.next.new.self c.in-None.ensures.steps ∙ tape_behind_end c.loop-index.tape.items
