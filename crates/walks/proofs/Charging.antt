-- A walk of an accepted graph goes on to a complete one, which the budget pays, and which ends in a saving.
use mathlib.Core.Path.{subst⁻¹}
use Rattle.std.proofs.Common.{ℕ, ◌+◌, ◌<◌, ◌≤◌, List, [], ◌∷◌, ◌++◌, ⊎_elim, arith}
use Rattle.std.proofs.lemmas.Bool.{cases_lt}
use Rattle.walks.specs.Graph.{Graph, onward}
use Rattle.walks.specs.Walk.{Ends, Walk, walk_price}
use Rattle.walks.specs.Acceptance.{Accepted}
use Rattle.walks.specs.Placing.{Placeable}
use Rattle.walks.specs.Charge.{ChargeRight}
use Rattle.walks.proofs.Steps.{Steps}
use Rattle.walks.proofs.Walking.{start_reached, reach_on, chain_on, ends_dear, chain_last, chain_short}
use Rattle.walks.proofs.Certifying.{dearest_is, walk_complete}

module _ (saving : ℕ) (g : Graph) (placeable : Placeable saving g) where
  -- what comes after a walk that has not ended costs a saving at least
  rest_dear : (l r : List ℕ) (n m : ℕ) → Steps (onward g) n l m → (Ends g n l → ⊥) → Ends g m r
      → walk_price g (n ∷ l) + saving ≤ walk_price g (n ∷ (l ++ r))
  rest_dear [] [] n m e unended ends = absurd (unended (subst⁻¹ (λ (x : ℕ). Ends g x []) e ends))
  rest_dear [] (t ∷ r) n m e unended ends = let h = ends_dear g saving placeable.endings r t ends in omega arith
  rest_dear (t ∷ l) r n m s unended ends = let h = rest_dear l r t m s.1 unended ends in omega arith

  module _ (budget : ℕ) (accepted : Accepted g budget) where
    paid : (n : ℕ) (l : List ℕ) → Walk g (n ∷ l) → walk_price g (n ∷ l) ≤ budget
    paid n l w =
        ⊎_elim
        (λ (h : budget < walk_price g (n ∷ l)). absurd (accepted.paid n (walk_complete g placeable.sound accepted.unlooped budget n l w h)))
        (λ (h : walk_price g (n ∷ l) ≤ budget). h)
        (cases_lt budget (walk_price g (n ∷ l)))

    -- a walk that has not ended goes on, at least to a saving
    spared : (n : ℕ) (l : List ℕ) → Walk g (n ∷ l) → (Ends g n l → ⊥) → walk_price g (n ∷ l) + saving ≤ budget
    spared n l w unended =
        let q = chain_last g l n w.1 in
        let m = (dearest_is g placeable.sound accepted.unlooped q.0 (reach_on g l n q.0 (start_reached g placeable.sound n w.0) q.1)).met in
        let c = chain_on g l m.0 n q.0 q.1 m.1.0 in
        let a = paid n (l ++ m.0) (w.0, c) in
        let b = rest_dear l m.0 n q.0 q.1 unended m.1.1 in
        omega arith

pub charge_right : ChargeRight
charge_right saving g placeable budget accepted n l w =
    record {
      short = chain_short g placeable.sound accepted.unlooped n l (start_reached g placeable.sound n w.0) w.1;
      paid = paid saving g placeable budget accepted n l w;
      spared = spared saving g placeable budget accepted n l w;
    }
