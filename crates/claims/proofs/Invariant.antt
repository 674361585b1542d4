-- What holds of a rig at every moment of its history.
--     Keeps G                      the laws of a kind of supply
--     made s σ κ b k c n           a rig by its parts
--     Tried m k p far              how far the rig had come where it fell since its last save, at k saves; before that, at most p
--     Fresh G m budget r way n     n charges, the last one at the kept state: it pays for every walk from there, of which r has gone way
--     Spared r p n far             n charges, and a save since the last one; no try has fallen since
--     Alive G m budget r           a rig that has not ended
--     Asked asked n                n attempts are one for each of so many steps that were asked, or as many as a rig makes
--     Over G m r                   a rig that has ended
use Rattle.std.proofs.Common.{◌≡◌, ℕ, suc, ◌+◌, ◌%◌, ◌^◌, ◌≤◌, true, false, ◌⊎◌, List, ◌∷◌, sym, inl, inr, arith}
use Rattle.machine.specs.Process.{Steps, AfterSaves}
use Rattle.supply.specs.declared.answer.Answer.{Answer}
use Rattle.supply.specs.declared.supply.Supply.{Ghosts}
use Rattle.supply.specs.Supply.{Drawn, Recharged}
use Rattle.walks.specs.Graph.{onward}
use Rattle.walks.specs.Walk.{Start, walk_price}
use Rattle.walks.proofs.Steps.{Steps as Along}
use Rattle.claims.specs.Machine.{Machine}
use Rattle.claims.specs.Rig.{Rig, attempt_limit}

pub record Keeps {S : Type 0} (G : Ghosts S) : Type 0 where
  pub drawn : (s t : S) (n : ℕ) (a : Answer) → G.draws s n a t → Drawn (G.four s) n a (G.four t)
  pub recharged : (s t : S) → G.fills s t → Recharged (G.four s) (G.four t)

abbrev pub Asked : ℕ → ℕ → Type 0
Asked asked n = (n ≡ asked) ⊎ (attempt_limit ≤ n)

module _ {S State : Type 0} where
  abbrev pub made : S → State → State → ℕ → ℕ → ℕ → ℕ → Rig S State
  made s σ κ b k c n = record { supply = s; state = σ; kept = κ; before = b; saves = k; cuts = c; attempts = n }

  pub rebuilt : (r : Rig S State) (σ κ : State) (b k c n : ℕ) → r.state ≡ σ → r.kept ≡ κ → r.before ≡ b → r.saves ≡ k → r.cuts ≡ c → r.attempts ≡ n
      → made r.supply σ κ b k c n ≡ r
  rebuilt r σ κ b k c n e₁ e₂ e₃ e₄ e₅ e₆ = λ i. made r.supply (sym e₁ i) (sym e₂ i) (sym e₃ i) (sym e₄ i) (sym e₅ i) (sym e₆ i)

  pub record Spared (r : Rig S State) (p rises far : ℕ) : Type 0 where
    pub few : rises ≤ r.saves + r.cuts
    pub unfallen : far ≡ p

pub data Tried {State : Type 0} (m : Machine State) (k p far : ℕ) : Type 0 where
  not_yet : far ≤ p → Tried m k p far
  to : {q : ℕ} {σ : State} → Steps m.run q k σ → m.run.ended σ ≡ false → far ≡ suc q → Tried m k p far

module _ {S State : Type 0} (G : Ghosts S) (m : Machine State) where
  pub record Over (r : Rig S State) : Type 0 where
    pub n : ℕ
    pub run : Steps m.run n r.saves r.kept
    pub ends : m.run.ended r.kept ≡ true
    pub rises : ℕ
    pub counted : (G.four r.supply).charges ≡ (r.before + rises) % 2 ^ 64
    pub few : rises ≤ r.saves + r.cuts + 1

  module _ (budget : ℕ) where
    pub record Fresh (r : Rig S State) (way : List ℕ) (rises : ℕ) : Type 0 where
      pub few : rises ≤ r.saves + r.cuts + 1
      -- what the walk has cost and what is assured come to the budget, and the node where the rig stands is still to pay
      pub room : budget + m.graph.price (m.node r.state) ≤ (G.four r.supply).assured + walk_price m.graph (m.node r.kept ∷ way)

    pub record Alive (r : Rig S State) : Type 0 where
      -- the kept state after p steps of the run, and the state after q, with as many saves
      pub p : ℕ
      pub q : ℕ
      pub kept_run : Steps m.run p r.saves r.kept
      pub state_run : Steps m.run q r.saves r.state
      pub on : p ≤ q
      pub kept_live : m.run.ended r.kept ≡ false
      pub live : m.run.ended r.state ≡ false
      pub after : AfterSaves m.run r.saves r.kept
      -- the walk from the one to the other
      pub starts : Start m.graph (m.node r.kept)
      pub way : List ℕ
      pub walked : Along (onward m.graph) (m.node r.kept) way (m.node r.state)
      -- the supply
      pub held : budget ≤ (G.four r.supply).budget
      pub rises : ℕ
      pub counted : (G.four r.supply).charges ≡ (r.before + rises) % 2 ^ 64
      pub far : ℕ
      pub charge : Fresh r way rises ⊎ Spared r p rises far
      -- the attempts: without cuts, those of one fallen try and of this one since the beginning
      pub tried : Tried m r.saves p far
      pub uncut : r.cuts ≡ 0 → r.attempts ≤ far + q

    abbrev pub Invariant : ℕ → Rig S State → Type 0
    Invariant asked r = (Alive r × Asked asked r.attempts) ⊎ Over r

    pub few_charges : {r : Rig S State} {way : List ℕ} {p rises far : ℕ} → Fresh r way rises ⊎ Spared r p rises far
        → rises ≤ r.saves + r.cuts + 1
    few_charges (inl f) = f.few
    few_charges (inr f) = let h = f.few in omega arith
