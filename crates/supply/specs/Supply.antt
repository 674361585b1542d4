-- What a supply means: four numbers, and what a draw and a recharge do to them. Assumes nothing.
--     f.budget                the charge that a recharge assures
--     f.assured               the charge that is certain to be there
--     f.asked                 all units asked for so far, modulo 2^64
--     f.charges               how often it was recharged, modulo 2^64
--     Drawn f n answer f'     a draw of n units goes from f to f': n is added to the units asked; where n is assured the answer is
--                             yes, and the assured charge falls by at most n; beyond that the answer and the assured charge are open
--     Recharged f f'          a recharge goes from f to f': it adds 1 to the charges and assures at least the budget
use Rattle.std.specs.Prelude.{◌≡◌, ℕ, ◌+◌, ◌%◌, ◌^◌, ◌≤◌}
use Rattle.supply.specs.declared.answer.Answer.{Answer}
use Rattle.supply.specs.declared.answer.Answer.TheVariants.{Yes}

pub record Four : Type 0 where
  pub budget : ℕ
  pub assured : ℕ
  pub asked : ℕ
  pub charges : ℕ

pub record Drawn (f : Four) (n : ℕ) (answer : Answer) (f' : Four) : Type 0 where
  pub budget_same : f'.budget ≡ f.budget
  pub assured_yes : n ≤ f.assured → answer ≡ Yes
  pub assured_falls : n ≤ f.assured → f.assured ≤ f'.assured + n
  pub asked_rises : f'.asked ≡ (f.asked + n) % 2 ^ 64
  pub charges_same : f'.charges ≡ f.charges

pub record Recharged (f f' : Four) : Type 0 where
  pub budget_same : f'.budget ≡ f.budget
  pub assured_full : f.budget ≤ f'.assured
  pub asked_same : f'.asked ≡ f.asked
  pub charges_rise : f'.charges ≡ (f.charges + 1) % 2 ^ 64
