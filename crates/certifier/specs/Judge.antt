-- The judgement of a lawful image, by a kind of path value that has prices. Assumes nothing.
--     k, price                     a kind of path value, and the price of a value
--     WorthsLeft k g old new       a list has the worths of a graph's nodes at its front, and is as before past them
--     over_at price d worths starts budget i     the refusal of node i, where it is a start and its value in the list is over
--                                  budget; d past the list's end
--     DearStart k price g budget n     n is a start, and its worth is over budget
--     Judged k price g budget old new r     what an answer r says of a graph, and what it leaves in the list
use Rattle.std.specs.Prelude.{◌≡◌, ℕ, ◌<◌, ◌≤◌, Bool, false, if◌then◌else◌, ◌&&◌, List, length, Some, None, Ok, Err, Option, Result, nat_lt, slice_index_or}
use Rattle.isa.specs.declared.refusal.Refusal.{Refusal}
use Rattle.isa.specs.declared.refusal.Refusal.TheVariants.{Loop, OverBudget}
use Rattle.paths.specs.Kind.{PathKind}
use Rattle.walks.specs.Graph.{Graph}
use Rattle.walks.specs.Walk.{Start}
use Rattle.walks.specs.Acceptance.{Lowest, Looped, Unlooped}
use Rattle.walks.specs.Worth.{worth_of}

pub record WorthsLeft {V : Type 0} (k : PathKind V) (g : Graph) (old new : List V) : Type 0 where
  pub size : length new ≡ length old
  pub within : (n : ℕ) → n < g.size → slice_index_or new n k.empty ≡ worth_of k g n
  pub past : (n : ℕ) → g.size ≤ n → slice_index_or new n k.empty ≡ slice_index_or old n k.empty

abbrev pub over_by : Bool → ℕ → ℕ → ℕ → Option Refusal
over_by start price budget i = if start && nat_lt budget price then Some (OverBudget i price) else None

abbrev pub over_at : {V : Type 0} → (V → ℕ) → V → List V → List Bool → ℕ → ℕ → Option Refusal
over_at price d worths starts budget i = over_by (slice_index_or starts i false) (price (slice_index_or worths i d)) budget i

abbrev pub DearStart : {V : Type 0} → PathKind V → (V → ℕ) → Graph → ℕ → ℕ → Type 0
DearStart k price g budget n = Start g n × (budget < price (worth_of k g n))

pub data Judged {V : Type 0} (k : PathKind V) (price : V → ℕ) (g : Graph) (budget : ℕ) (old new : List V) : Result (Unit {0}) Refusal → Type 0 where
  looping : {s : ℕ} → Lowest (Looped g) s → new ≡ old → Judged k price g budget old new (Err (Loop s))
  dear : {s : ℕ} → Unlooped g → WorthsLeft k g old new → Lowest (DearStart k price g budget) s
      → Judged k price g budget old new (Err (OverBudget s (price (worth_of k g s))))
  paid : Unlooped g → WorthsLeft k g old new → ((n : ℕ) → DearStart k price g budget n → ⊥)
      → Judged k price g budget old new (Ok tt)
