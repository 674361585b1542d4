use Rattle.std.proofs.Common.{ℕ, ◌-◌, List, [], Bor, Ok, get_or, length, take, drop, ap, ◌∙◌}
use Rattle.std.proofs.lemmas.Result.{err_from_is_err_and}
use Rattle.inputs.specs.declared.misuse.Verb.TheVariants as verb
use Rattle.inputs.specs.Command.{report, asked, rehearsing, rehearsal_in, report_of}
use Rattle.inputs.specs.Misuse.{read_then}
use Rattle.inputs.specs.Options.{texts}
use Rattle.inputs.proofs.Telling.{texts_four, told_on}
use Rattle.inputs.proofs.command.read_report.Goals as goal

pub returns-in_err-rehearsal : goal.returns-in_err-rehearsal
returns-in_err-rehearsal c =
    let d : Bor (List ℕ) = record { ref_ptr = (0, 0); now = [] } in
    let words = c.args.words.now in
    let read = rehearsal_in verb.Report (get_or words 0 d).now (get_or words 1 d).now (get_or words 2 d).now (texts (take (length words - 4) (drop 4 words))) in
    let e = err_from_is_err_and c.from_residual.result c.from_residual.ensures.1 in
    rw (e.1, e.2)
    (told_on rehearsing asked read (report_of (texts words)) c.in_err-rehearsal.field-0.0
    (λ e is. ap report_of (texts_four words d c.in-len4-up.len_at_least) ∙ ap (λ read. read_then read (λ r. Ok (report r (get_or words 3 d).now))) is) c.in_err-rehearsal.ensures)

pub returns : goal.returns
returns c =
    let d : Bor (List ℕ) = record { ref_ptr = (0, 0); now = [] } in
    let words = c.args.words.now in
    ap report_of (texts_four words d c.in-len4-up.len_at_least) ∙ ap (λ read. read_then read (λ r. Ok (report r (get_or words 3 d).now))) c.in_ok-rehearsal.ensures
