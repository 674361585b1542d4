use Rattle.std.proofs.Common.{rules, ℕ, arith}
use Rattle.std.specs.declared.cmp.Reverse.{Reverse}
use Rattle.std.proofs.lemmas.Grind.{common_steps}
use Rattle.std.proofs.lemmas.Bool.Decides.{nat_tests}
use Rattle.std.proofs.lemmas.List.Sorted.{answers_always}
use Rattle.paths.specs.declared.worth.Worth.{Worth}
use Rattle.paths.proofs.worth.WorthPathValue.join.Goals as goal

abbrev key : Worth → ℕ × Reverse ℕ
key w = (w.price, record { 0 = w.slot })

pub returns : goal.returns
returns c =
    let e = c.max_by_key.ensures key (answers_always _ _ _ (λ f a r g h. search rules)) in
    grind (arith, common_steps, nat_tests, e)
