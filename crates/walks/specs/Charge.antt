-- What one charge is good for in an accepted graph. Assumes nothing.
--     Charged saving g budget n l     what holds of a walk, n and then l, that one charge of the budget pays
--     ChargeRight                     it holds of every walk of an accepted graph
use Rattle.std.specs.Prelude.{ℕ, ◌+◌, ◌≤◌, List, ◌∷◌, length}
use Rattle.walks.specs.Graph.{Graph}
use Rattle.walks.specs.Walk.{Ends, Walk, walk_price}
use Rattle.walks.specs.Acceptance.{Accepted}
use Rattle.walks.specs.Placing.{Placeable}

pub record Charged (saving : ℕ) (g : Graph) (budget n : ℕ) (l : List ℕ) : Type 0 where
  -- it holds no more nodes than the graph has,
  pub short : length (n ∷ l) ≤ g.size
  -- it costs the budget at most,
  pub paid : walk_price g (n ∷ l) ≤ budget
  -- and where it has not come to a save or EXIT, a saving less
  pub spared : (Ends g n l → ⊥) → walk_price g (n ∷ l) + saving ≤ budget

abbrev pub ChargeRight : Type 0
ChargeRight =
    (saving : ℕ) (g : Graph) → Placeable saving g → (budget : ℕ) → Accepted g budget
    → (n : ℕ) (l : List ℕ) → Walk g (n ∷ l) → Charged saving g budget n l
