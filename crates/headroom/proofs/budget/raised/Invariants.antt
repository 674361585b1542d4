use Rattle.std.proofs.Common.{ℕ, ◌-◌, ◌<◌, ◌≤◌}
use Rattle.headroom.specs.Budget.{most_budget, AcceptedAt}
use Rattle.headroom.proofs.budget.raised.Given as goal

abbrev pub invariant-loop-price : goal.invariant-loop-price
invariant-loop-price g l =
    record {
      some : 1 ≤ l.budget;
      most : l.budget ≤ most_budget;
      refused : (c : ℕ) → c < l.budget → AcceptedAt (g.M.PriceModel.means l.model) l.image 1024 c → ⊥;
    }

abbrev pub decreases-loop-price : goal.decreases-loop-price
decreases-loop-price g l = most_budget - l.budget
