-- What a price model means: four functions, and the laws that they keep. Assumes nothing.
--     m.most o imm             the most that an instruction of opcode o with this imm spends
--     m.spending o imm a b     what it spends at the operands a and b
--     m.dearest                the most that a saving spends
--     m.saving p               what a saving with p pending records spends
--     SpendingWithin m         no instruction spends more than its most
--     SavingWithin m           no saving spends more than the dearest
--     MostSmall m, DearestSmall m     both mosts fit 16 bits
--     Bounded m                all these laws
use Rattle.std.specs.Prelude.{ℕ, ◌≤◌, ℤ}

pub record Model : Type 0 where
  pub most : ℕ → ℤ → ℕ
  pub spending : ℕ → ℤ → ℕ → ℕ → ℕ
  pub dearest : ℕ
  pub saving : ℕ → ℕ

abbrev pub SpendingWithin : Model → Type 0
SpendingWithin m = (o : ℕ) (imm : ℤ) (a b : ℕ) → m.spending o imm a b ≤ m.most o imm

abbrev pub SavingWithin : Model → Type 0
SavingWithin m = (p : ℕ) → m.saving p ≤ m.dearest

abbrev pub MostSmall : Model → Type 0
MostSmall m = (o : ℕ) (imm : ℤ) → m.most o imm ≤ 65535

abbrev pub DearestSmall : Model → Type 0
DearestSmall m = m.dearest ≤ 65535

pub record Bounded (m : Model) : Type 0 where
  pub spending_within : SpendingWithin m
  pub saving_within : SavingWithin m
  pub most_small : MostSmall m
  pub dearest_small : DearestSmall m
