-- A process that begins, steps on and may end, some of its steps being saves. Assumes nothing.
--     Process S               where it begins, what a step leaves, which states have ended, at which states a step saves
--     Steps p n k σ           n steps from the beginning lead to σ, k of them saves; an ended state takes no step
--     AfterSaves p k σ        σ is what the k-th step at a save left, or the beginning for 0
--     EndsAfter p n σ         the process ends in σ by its n-th step
--     Deterministic p         each of these has one answer
use Rattle.std.specs.Prelude.{◌≡◌, ℕ, suc, Bool, true, false}

pub record Process (S : Type 0) : Type 0 where
  pub start : S
  pub step : S → S
  pub ended : S → Bool
  pub saves : S → Bool

pub data Steps {S : Type 0} (p : Process S) : ℕ → ℕ → S → Type 0 where
  begin : Steps p 0 0 p.start
  plain : {n k : ℕ} {σ : S} → Steps p n k σ → p.ended σ ≡ false → p.saves σ ≡ false → Steps p (suc n) k (p.step σ)
  save : {n k : ℕ} {σ : S} → Steps p n k σ → p.ended σ ≡ false → p.saves σ ≡ true → Steps p (suc n) (suc k) (p.step σ)

pub data AfterSaves {S : Type 0} (p : Process S) : ℕ → S → Type 0 where
  none : AfterSaves p 0 p.start
  left : {n k : ℕ} {σ : S} → Steps p n k σ → p.ended σ ≡ false → p.saves σ ≡ true → AfterSaves p (suc k) (p.step σ)

abbrev pub EndsAfter : {S : Type 0} → Process S → ℕ → S → Type 0
EndsAfter p n σ = (k : ℕ) × Steps p n k σ × (p.ended σ ≡ true)

pub record Deterministic {S : Type 0} (p : Process S) : Type 0 where
  pub one_state : (n k k' : ℕ) (σ σ' : S) → Steps p n k σ → Steps p n k' σ' → (k ≡ k') × (σ ≡ σ')
  pub one_after_saves : (k : ℕ) (σ σ' : S) → AfterSaves p k σ → AfterSaves p k σ' → σ ≡ σ'
  pub one_end : (n n' : ℕ) (σ σ' : S) → EndsAfter p n σ → EndsAfter p n' σ' → (n ≡ n') × (σ ≡ σ')
