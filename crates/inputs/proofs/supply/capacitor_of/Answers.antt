use Rattle.std.proofs.Common.{◌≡◌, [], ◌∷◌, None, ap, sym, ◌∙◌, arith}
use Rattle.inputs.specs.Supply.{capacitor_of}
use Rattle.inputs.proofs.Parting.{NumbersSoFar, number_of, numbers_begun, part_came, number_came, numbers_ended, four_only}
use Rattle.inputs.proofs.supply.capacitor_of.Goals.{In_ok-microfarads, In_ok-top, In_ok-bottom, In_ok-unit}
use Rattle.inputs.proofs.supply.capacitor_of.Goals as goal

-- after 1 number
after_microfarads : (c : In_ok-microfarads) → NumbersSoFar c.args.text.now (c.in_ok-microfarads.microfarads ∷ []) c.next.new.self
after_microfarads c =
    let s0 = numbers_begun c.args.text.now c.split-words.result c.split-words.ensures.text c.split-words.ensures.has_more c.split-words.ensures.pattern in
    let s1 = number_came s0 c.in_ok-next.field-0 c.next.new.self c.in_ok-next.ensures.steps c.in_ok-microfarads.microfarads (sym c.u32_of.ensures ∙ c.in_ok-microfarads.was) in
    s1

-- after 2 numbers
after_top : (c : In_ok-top) → NumbersSoFar c.args.text.now (c.in_ok-microfarads.microfarads ∷ c.in_ok-top.top ∷ []) c.next-2.new.self
after_top c =
    let s0 = numbers_begun c.args.text.now c.split-words.result c.split-words.ensures.text c.split-words.ensures.has_more c.split-words.ensures.pattern in
    let s1 = number_came s0 c.in_ok-next.field-0 c.next.new.self c.in_ok-next.ensures.steps c.in_ok-microfarads.microfarads (sym c.u32_of.ensures ∙ c.in_ok-microfarads.was) in
    let s2 = number_came s1 c.in_ok-next-2.field-0 c.next-2.new.self c.in_ok-next-2.ensures.steps c.in_ok-top.top (sym c.u32_of-2.ensures ∙ c.in_ok-top.was) in
    s2

-- after 3 numbers
after_bottom : (c : In_ok-bottom) → NumbersSoFar c.args.text.now (c.in_ok-microfarads.microfarads ∷ c.in_ok-top.top ∷ c.in_ok-bottom.bottom ∷ []) c.next-3.new.self
after_bottom c =
    let s0 = numbers_begun c.args.text.now c.split-words.result c.split-words.ensures.text c.split-words.ensures.has_more c.split-words.ensures.pattern in
    let s1 = number_came s0 c.in_ok-next.field-0 c.next.new.self c.in_ok-next.ensures.steps c.in_ok-microfarads.microfarads (sym c.u32_of.ensures ∙ c.in_ok-microfarads.was) in
    let s2 = number_came s1 c.in_ok-next-2.field-0 c.next-2.new.self c.in_ok-next-2.ensures.steps c.in_ok-top.top (sym c.u32_of-2.ensures ∙ c.in_ok-top.was) in
    let s3 = number_came s2 c.in_ok-next-3.field-0 c.next-3.new.self c.in_ok-next-3.ensures.steps c.in_ok-bottom.bottom (sym c.u32_of-3.ensures ∙ c.in_ok-bottom.was) in
    s3

-- after 4 numbers
after_unit : (c : In_ok-unit) → NumbersSoFar c.args.text.now (c.in_ok-microfarads.microfarads ∷ c.in_ok-top.top ∷ c.in_ok-bottom.bottom ∷ c.in_ok-unit.unit ∷ []) c.next-4.new.self
after_unit c =
    let s0 = numbers_begun c.args.text.now c.split-words.result c.split-words.ensures.text c.split-words.ensures.has_more c.split-words.ensures.pattern in
    let s1 = number_came s0 c.in_ok-next.field-0 c.next.new.self c.in_ok-next.ensures.steps c.in_ok-microfarads.microfarads (sym c.u32_of.ensures ∙ c.in_ok-microfarads.was) in
    let s2 = number_came s1 c.in_ok-next-2.field-0 c.next-2.new.self c.in_ok-next-2.ensures.steps c.in_ok-top.top (sym c.u32_of-2.ensures ∙ c.in_ok-top.was) in
    let s3 = number_came s2 c.in_ok-next-3.field-0 c.next-3.new.self c.in_ok-next-3.ensures.steps c.in_ok-bottom.bottom (sym c.u32_of-3.ensures ∙ c.in_ok-bottom.was) in
    let s4 = number_came s3 c.in_ok-next-4.field-0 c.next-4.new.self c.in_ok-next-4.ensures.steps c.in_ok-unit.unit (sym c.u32_of-4.ensures ∙ c.in_ok-unit.was) in
    s4

pub returns-in_err-microfarads : goal.returns-in_err-microfarads
returns-in_err-microfarads c =
    let so = numbers_begun c.args.text.now c.split-words.result c.split-words.ensures.text c.split-words.ensures.has_more c.split-words.ensures.pattern in
    let none : number_of c.in_ok-next.field-0.now ≡ None = sym c.u32_of.ensures ∙ c.in_err-microfarads.was in
    c.from_residual-in_err-microfarads.ensures ∙ ap capacitor_of (sym (part_came so c.in_ok-next.field-0 c.next.new.self c.in_ok-next.ensures.steps None none).1)

pub returns-in_err-next-2 : goal.returns-in_err-next-2
returns-in_err-next-2 c =
    let so = after_microfarads ((goal.at.returns-in_err-next-2 c).In_ok-microfarads) in
    c.from_residual-in_err-next-2.ensures ∙ ap capacitor_of (sym (numbers_ended so c.next-2.new.self c.in_err-next-2.ensures.steps))

pub returns-in_err-top : goal.returns-in_err-top
returns-in_err-top c =
    let so = after_microfarads ((goal.at.returns-in_err-top c).In_ok-microfarads) in
    let none : number_of c.in_ok-next-2.field-0.now ≡ None = sym c.u32_of-2.ensures ∙ c.in_err-top.was in
    c.from_residual-in_err-top.ensures ∙ ap capacitor_of (sym (part_came so c.in_ok-next-2.field-0 c.next-2.new.self c.in_ok-next-2.ensures.steps None none).1)

pub returns-in_err-next-3 : goal.returns-in_err-next-3
returns-in_err-next-3 c =
    let so = after_top ((goal.at.returns-in_err-next-3 c).In_ok-top) in
    c.from_residual-in_err-next-3.ensures ∙ ap capacitor_of (sym (numbers_ended so c.next-3.new.self c.in_err-next-3.ensures.steps))

pub returns-in_err-bottom : goal.returns-in_err-bottom
returns-in_err-bottom c =
    let so = after_top ((goal.at.returns-in_err-bottom c).In_ok-top) in
    let none : number_of c.in_ok-next-3.field-0.now ≡ None = sym c.u32_of-3.ensures ∙ c.in_err-bottom.was in
    c.from_residual-in_err-bottom.ensures ∙ ap capacitor_of (sym (part_came so c.in_ok-next-3.field-0 c.next-3.new.self c.in_ok-next-3.ensures.steps None none).1)

pub returns-in_err-next-4 : goal.returns-in_err-next-4
returns-in_err-next-4 c =
    let so = after_bottom ((goal.at.returns-in_err-next-4 c).In_ok-bottom) in
    c.from_residual-in_err-next-4.ensures ∙ ap capacitor_of (sym (numbers_ended so c.next-4.new.self c.in_err-next-4.ensures.steps))

pub returns-in_err-unit : goal.returns-in_err-unit
returns-in_err-unit c =
    let so = after_bottom ((goal.at.returns-in_err-unit c).In_ok-bottom) in
    let none : number_of c.in_ok-next-4.field-0.now ≡ None = sym c.u32_of-4.ensures ∙ c.in_err-unit.was in
    c.from_residual-in_err-unit.ensures ∙ ap capacitor_of (sym (part_came so c.in_ok-next-4.field-0 c.next-4.new.self c.in_ok-next-4.ensures.steps None none).1)

pub returns : goal.returns
returns c =
    let so = after_unit ((goal.at.returns c).In_ok-unit) in
    let whole = four_only c.in_ok-microfarads.microfarads c.in_ok-top.top c.in_ok-bottom.bottom c.in_ok-unit.unit so c.next-5.result c.next-5.new.self c.next-5.ensures.steps in
    grind (arith, whole)
