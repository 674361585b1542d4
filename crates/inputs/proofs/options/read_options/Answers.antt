use Rattle.std.proofs.Common.{ℕ, ◌-◌, List, [], Bor, get_or, length, take, drop, ap, ◌∙◌}
use Rattle.inputs.specs.Options.{chosen, chosen_from, texts}
use Rattle.inputs.proofs.Telling.{texts_two, chosen_on}
use Rattle.inputs.proofs.options.read_options.Goals as goal

pub loop-rest-preserved : goal.loop-rest-preserved
loop-rest-preserved c =
    let d : Bor (List ℕ) = record { ref_ptr = (0, 0); now = [] } in
    let rest = c.loop-rest.rest.now in
    c.loop-rest.invariant ∙ ap (chosen_from c.args.verb (chosen c.loop-rest.options)) (texts_two rest d c.in-len2-up.len_at_least)
    ∙ chosen_on c.args.verb (chosen c.loop-rest.options) (chosen c.take.new.self) (get_or rest 0 d).now (get_or rest 1 d).now (texts (take (length rest - 2) (drop 2 rest))) c.in_ok-take.ensures
