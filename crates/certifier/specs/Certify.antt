-- What certifying an image answers: as a function that computes, and in the words of walks. Assumes nothing.
--     m, image, budget, room        a price model, an image, a budget, and the length of the working list
--     within_limits budget          the budget is 1 to 100,000,000
--     result_of a                   the answer about a graph, as the call gives it
--     limited budget room             the first check on budget and room that fails
--     admission image budget room     the first check that fails before walks are looked at
--     certification m image budget room     the answer: that check, and else the answer about the walks
--     InOrder image budget room     the budget is within its limits, the working list has 1,024 entries, and the image is lawful
--     Meaning m image budget room r     what an answer says of the walks of an image
--     LeftBy k g old new r          what an answer leaves in a list of values of a kind
--     Left g old new r              the same of worths: what it leaves in the working list
use Rattle.std.specs.Prelude.{◌≡◌, ℕ, ◌≤◌, Bool, if◌then◌else◌, ◌&&◌, ◌↔◌, List, Ok, Err, Result, ◌≢◌, nat_le}
use Rattle.isa.specs.declared.refusal.Refusal.{Refusal}
use Rattle.isa.specs.declared.refusal.Refusal.TheVariants.{Budget, Loop, OverBudget, WorkingList}
use Rattle.isa.specs.Lawful.{lawfulness, Lawful}
use Rattle.pricing.specs.Model.{Model}
use Rattle.paths.specs.declared.worth.Worth.{Worth}
use Rattle.paths.specs.Kind.{PathKind}
use Rattle.paths.specs.Worth.{worth_kind}
use Rattle.walks.specs.Graph.{Graph}
use Rattle.walks.specs.Acceptance.{Lowest, Looped, Accepted, TooDear, Answer, accepted, loop, over}
use Rattle.walks.specs.Certified.{certified}
use Rattle.walks.specs.ImageGraph.{graph_of}
use Rattle.certifier.specs.Judge.{WorthsLeft}

abbrev pub within_limits : ℕ → Bool
within_limits budget = nat_le 1 budget && nat_le budget 100000000

abbrev pub result_of : Answer → Result (Unit {0}) Refusal
result_of accepted = Ok tt
result_of (loop s) = Err (Loop s)
result_of (over s p) = Err (OverBudget s p)

abbrev pub and_then : Result (Unit {0}) Refusal → Result (Unit {0}) Refusal → Result (Unit {0}) Refusal
and_then (Ok u) later = later
and_then (Err r) later = Err r

abbrev pub limited : ℕ → ℕ → Result (Unit {0}) Refusal
limited budget room = if within_limits budget then (if nat_le 1024 room then Ok tt else Err WorkingList) else Err Budget

-- the budget, the room, and then the rules on images
abbrev pub admission : List ℕ → ℕ → ℕ → Result (Unit {0}) Refusal
admission image budget room =
    if within_limits budget then (if nat_le 1024 room then lawfulness image else Err WorkingList) else Err Budget

abbrev pub certification : Model → List ℕ → ℕ → ℕ → Result (Unit {0}) Refusal
certification m image budget room = and_then (admission image budget room) (result_of (certified (graph_of m image) budget))

pub record InOrder (image : List ℕ) (budget room : ℕ) : Type 0 where
  pub some : 1 ≤ budget
  pub most : budget ≤ 100000000
  pub roomy : 1024 ≤ room
  pub lawful : Lawful image

pub record Meaning (m : Model) (image : List ℕ) (budget room : ℕ) (r : Result (Unit {0}) Refusal) : Type 0 where
  -- accepted: no walk holds a slot twice, and no complete walk costs more than the budget;
  pub accepted : (r ≡ Ok tt) ↔ (InOrder image budget room × Accepted (graph_of m image) budget)
  -- refused by a loop: slot s is the lowest that some walk holds twice;
  pub looping : (s : ℕ) → (r ≡ Err (Loop s)) ↔ (InOrder image budget room × Lowest (Looped (graph_of m image)) s)
  -- refused over budget: slot s is the lowest start with a walk over budget, and p the price of its dearest walk
  pub dear : (s p : ℕ) → (r ≡ Err (OverBudget s p)) ↔ (InOrder image budget room × TooDear (graph_of m image) budget s p)

pub record LeftBy {V : Type 0} (k : PathKind V) (g : Graph) (old new : List V) (r : Result (Unit {0}) Refusal) : Type 0 where
  -- the worths after acceptance and after a refusal over budget,
  pub accepted : r ≡ Ok tt → WorthsLeft k g old new
  pub dear : (s p : ℕ) → r ≡ Err (OverBudget s p) → WorthsLeft k g old new
  -- and after any other refusal what it held before
  pub others : (b : Refusal) → r ≡ Err b → ((s p : ℕ) → b ≢ OverBudget s p) → new ≡ old

abbrev pub Left : Graph → List Worth → List Worth → Result (Unit {0}) Refusal → Type 0
Left g old new r = LeftBy worth_kind g old new r
