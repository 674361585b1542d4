use Rattle.std.proofs.Common.{◌≡◌, ℕ, ◌-◌, List, [], Bor, Err, get_or, length, take, drop, ap, sym, ◌∙◌}
use Rattle.std.proofs.lemmas.Result.{err_from_is_err_and}
use Rattle.inputs.specs.declared.misuse.Verb.TheVariants as verb
use Rattle.inputs.specs.Command.{asked, supply_among, supply_if, headroom_of}
use Rattle.inputs.specs.Options.{texts}
use Rattle.inputs.proofs.Telling.{texts_first, told_err, headroom_failed}
use Rattle.inputs.proofs.command.read_headroom.Goals as goal

pub returns-in_err-supply-clause-told : goal.returns-in_err-supply-clause-told
returns-in_err-supply-clause-told c =
    let d : Bor (List ℕ) = record { ref_ptr = (0, 0); now = [] } in
    let words = c.args.words.now in
    let rest = take (length words - 1) (drop 1 words) in
    let failed : supply_if verb.Headroom (supply_among (texts rest)).0 ≡ Err c.in_err-supply.field-0.0 =
    ap (supply_if verb.Headroom) (sym c.supply_among.ensures.word) ∙ sym c.supply_if.ensures ∙ c.in_err-supply.was in
    let e = err_from_is_err_and c.from_residual.result c.from_residual.ensures.1 in
    rw (e.1, e.2)
    (told_err asked (headroom_of (texts words)) c.in_err-supply.field-0.0
    (ap headroom_of (texts_first words d c.in-len1-up.len_at_least) ∙ headroom_failed (get_or words 0 d).now (texts rest) c.in_err-supply.field-0.0 failed))
