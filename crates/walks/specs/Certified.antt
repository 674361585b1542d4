-- The answer about a sound graph, as a function that computes. Assumes nothing.
--     lowest_below f n        the lowest number below n that passes the test f, or none
--     looped g n              n is reachable, and onward nodes lead from it back to it
--     started g n             n is a start
--     sum_kind                the kind of path value that is a price without end: summed, and joined by the greater
--     dearest g n             the price of the dearest complete list from n
--     overspends g budget n   n is a start, and its dearest price is over budget
--     certified g budget      the answer: the lowest loop, else the lowest start over budget, else accepted
--     CertifiedRight          on a sound graph it is the one answer that says what is so
--     WalksComplete           without a loop, a walk over budget is met by a complete walk from the same start
use Rattle.std.specs.Prelude.{◌≡◌, ℕ, zero, suc, ◌+◌, ◌<◌, max, Bool, true, false, cond, ◌&&◌, ◌↔◌, List, ◌∷◌, Some, None, Option, nat_lt}
use Rattle.isa.specs.declared.instruction.Role.{Role}
use Rattle.isa.specs.declared.instruction.Role.TheVariants.{Save, Idle, Exit, Other}
use Rattle.isa.specs.First.{first_below}
use Rattle.paths.specs.Kind.{PathKind}
use Rattle.walks.specs.Graph.{Graph, onward, Sound}
use Rattle.walks.specs.Walk.{Walk, walk_price}
use Rattle.walks.specs.Acceptance.{Unlooped, OverBudget, Answer, accepted, loop, over, Means}
use Rattle.walks.specs.Reached.{any, near, reached}
use Rattle.walks.specs.Worth.{worth_within}

abbrev pub lowest_below : (ℕ → Bool) → ℕ → Option ℕ
lowest_below f n = first_below (λ i. cond (f i) (Some i) None) n

abbrev pub is_save : Role → Bool
is_save Save = true
is_save Idle = false
is_save Exit = false
is_save Other = false

abbrev pub sum_kind : PathKind ℕ
sum_kind = record { empty = 0; join = max; extend = λ x s p. x + p }

module _ (g : Graph) where
  abbrev pub returns : ℕ → Bool
  returns n = any (near (onward g) n g.size) (onward g n)

  abbrev pub looped : ℕ → Bool
  looped n = let back = returns n in reached g n && back

  abbrev pub started : ℕ → Bool
  started zero = true
  started (suc s) = let there = reached g s in is_save (g.role s) && there

  abbrev pub dearest : ℕ → ℕ
  dearest n = worth_within sum_kind g g.size n

  abbrev pub overspends : ℕ → ℕ → Bool
  overspends budget n = let dear = nat_lt budget (dearest n) in started n && dear

  abbrev pub charged : Option ℕ → Answer
  charged None = accepted
  charged (Some n) = over n (dearest n)

  abbrev pub answered : Option ℕ → Option ℕ → Answer
  answered (Some n) o = loop n
  answered None o = charged o

  abbrev pub certified : ℕ → Answer
  certified budget = answered (lowest_below looped g.size) (lowest_below (overspends budget) g.size)

abbrev pub CertifiedRight : Type 0
CertifiedRight = (g : Graph) → Sound g → (budget : ℕ) (a : Answer) → (certified g budget ≡ a) ↔ Means g budget a

abbrev pub WalksComplete : Type 0
WalksComplete =
    (g : Graph) → Sound g → Unlooped g → (budget n : ℕ) (l : List ℕ) → Walk g (n ∷ l) → budget < walk_price g (n ∷ l) → OverBudget g budget n
