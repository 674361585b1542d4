-- Walks: what a round can do on one charge. Assumes nothing.
--     Reachable g n          ways out lead from node 0 to n
--     Start g n              n is node 0, or the node after a reachable save
--     Chain g n l            l goes on from n: each node a way out of the one before, which is no save and no EXIT
--     Ends g n l             the last node of n and then l is a save or EXIT
--     CompleteList g n l     both: n and then l, as far as a walk can go
--     Walk g w               w goes on from a start
--     CompleteWalk g w       w is a complete list from a start
--     walk_price g w         the sum of the prices of the nodes of w
use Rattle.std.specs.Prelude.{◌≡◌, ℕ, suc, ◌+◌, true, ◌⊎◌, List, [], ◌∷◌}
use Rattle.isa.specs.declared.instruction.Role.TheVariants.{Save}
use Rattle.paths.specs.Net.{In}
use Rattle.walks.specs.Graph.{Graph, ending, onward}

pub data Reachable (g : Graph) : ℕ → Type 0 where
  first : Reachable g 0
  next : {n t : ℕ} → Reachable g n → In t (g.ways n) → Reachable g t

module _ (g : Graph) where
  abbrev pub Start : ℕ → Type 0
  Start n = (n ≡ 0) ⊎ ((s : ℕ) × Reachable g s × (g.role s ≡ Save) × (n ≡ suc s))

  abbrev pub Chain : ℕ → List ℕ → Type 0
  Chain n [] = Unit {0}
  Chain n (t ∷ l) = In t (onward g n) × Chain t l

  abbrev pub Ends : ℕ → List ℕ → Type 0
  Ends n [] = ending (g.role n) ≡ true
  Ends n (t ∷ l) = Ends t l

  abbrev pub CompleteList : ℕ → List ℕ → Type 0
  CompleteList n l = Chain n l × Ends n l

  abbrev pub Walk : List ℕ → Type 0
  Walk [] = ⊥
  Walk (n ∷ l) = Start n × Chain n l

  abbrev pub CompleteWalk : List ℕ → Type 0
  CompleteWalk [] = ⊥
  CompleteWalk (n ∷ l) = Start n × CompleteList n l

  abbrev pub walk_price : List ℕ → ℕ
  walk_price [] = 0
  walk_price (n ∷ l) = g.price n + walk_price l
