-- When a graph is accepted at a budget, and what an answer about it means. Assumes nothing.
--     Twice n w                n stands at two places of the list w
--     Lowest P n               n is the lowest number with the property P
--     Looped g n               some walk holds n twice
--     Unlooped g               no walk holds a node twice
--     OverBudget g budget n    n is a start with a complete walk that costs more than the budget
--     Accepted g budget        no walk holds a node twice, and no complete walk costs more than the budget
--     Dearest g n p            p is the price of the dearest complete list from n
--     TooDear g budget n p     no walk holds a node twice, n is the lowest start over budget, and p its dearest price
--     Answer                   accepted; a loop at a node; over budget from a start, with a price
--     Means g budget a         the answer a says what is so
use Rattle.std.specs.Prelude.{◌≡◌, ℕ, ◌<◌, ◌≤◌, ◌⊎◌, List, [], ◌∷◌}
use Rattle.paths.specs.Net.{In}
use Rattle.walks.specs.Graph.{Graph}
use Rattle.walks.specs.Walk.{CompleteList, Walk, CompleteWalk, walk_price}

abbrev pub Twice : ℕ → List ℕ → Type 0
Twice n [] = ⊥
Twice n (m ∷ l) = ((n ≡ m) × In n l) ⊎ Twice n l

pub record Lowest (P : ℕ → Type 0) (n : ℕ) : Type 0 where
  pub has : P n
  pub least : (m : ℕ) → m < n → P m → ⊥

module _ (g : Graph) where
  abbrev pub Looped : ℕ → Type 0
  Looped n = (w : List ℕ) × Walk g w × Twice n w

  abbrev pub Unlooped : Type 0
  Unlooped = (n : ℕ) → Looped n → ⊥

  abbrev pub OverBudget : ℕ → ℕ → Type 0
  OverBudget budget n = (l : List ℕ) × CompleteWalk g (n ∷ l) × (budget < walk_price g (n ∷ l))

  pub record Accepted (budget : ℕ) : Type 0 where
    pub unlooped : Unlooped
    pub paid : (n : ℕ) → OverBudget budget n → ⊥

  pub record Dearest (n p : ℕ) : Type 0 where
    pub met : (l : List ℕ) × CompleteList g n l × (walk_price g (n ∷ l) ≡ p)
    pub most : (l : List ℕ) → CompleteList g n l → walk_price g (n ∷ l) ≤ p

  pub record TooDear (budget n p : ℕ) : Type 0 where
    pub unlooped : Unlooped
    pub lowest : Lowest (OverBudget budget) n
    pub dearest : Dearest n p

pub data Answer : Type 0 where
  accepted : Answer
  loop : ℕ → Answer
  over : ℕ → ℕ → Answer

abbrev pub Means : Graph → ℕ → Answer → Type 0
Means g budget accepted = Accepted g budget
Means g budget (loop n) = Lowest (Looped g) n
Means g budget (over n p) = TooDear g budget n p
