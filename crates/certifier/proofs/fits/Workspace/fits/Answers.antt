use Rattle.std.proofs.Common.{ℕ, refl, rules, ◌∙◌, arith}
use Rattle.paths.specs.Net.{tabled}
use Rattle.search.specs.Reach.{Looped}
use Rattle.certifier.proofs.Fitting.{never_looping, fits_judged}
use Rattle.certifier.proofs.fits.Workspace.fits.Goals as goal

pub returns-in_default : goal.returns-in_default
returns-in_default c g t inside =
    let table = c.args.table.now in
    let found : (n : ℕ) × Looped (tabled table.nodes.now) table.starts.now n = search (rules, c.in_default.ensures) in
    never_looping g table.nodes.now table.starts.now t c.args.budget found.0 table.sized.1 found.1

pub returns : goal.returns
returns c g t inside =
    let cleared = c.clear.new.worths in
    c.is_ok.ensures.value
    ∙ fits_judged g c.args.table.now.nodes.now c.args.table.now.starts.now t c.args.budget cleared c.judge_order.new.worths c.judge_order.result
    (c.judge_order.ensures g t cleared refl
    (record { below = λ n h. c.clear.ensures.below n (omega (arith, h, inside)); beyond = λ n h. refl }))
