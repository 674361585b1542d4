-- A machine whose steps a supply pays for, seen against the graph that walks go along. Assumes nothing.
--     m.run               the process that it is on the mains
--     m.ending σ          how σ has ended, or none
--     m.record_at σ i     the record of that number in the log of σ, or none
--     m.saves σ           the step at σ tells that it was a save
--     m.amount κ σ        what the step at σ draws where κ is the kept state
--     m.graph             the graph, and
--     m.node σ            the node of it where σ stands
--     m.dearest           the most that a saving spends
--     StepObeys m σ       what the step at σ keeps
--     Obeys m             what a machine keeps: its graph, its beginning, and each step that its run takes
use Rattle.std.specs.Prelude.{◌≡◌, ℕ, ◌+◌, ◌≤◌, Bool, true, false, Option}
use Rattle.machine.specs.declared.ending.Ending.{Ending}
use Rattle.machine.specs.declared.state.Record.{Record}
use Rattle.machine.specs.Process.{Process, Steps}
use Rattle.paths.specs.Net.{In}
use Rattle.walks.specs.Graph.{Graph, ending}
use Rattle.walks.specs.Certified.{is_save}
use Rattle.walks.specs.Placing.{Placeable}

pub record Machine (State : Type 0) : Type 0 where
  pub run : Process State
  pub ending : State → Option Ending
  pub record_at : State → ℕ → Option Record
  pub saves : State → Bool
  pub amount : State → State → ℕ
  pub graph : Graph
  pub node : State → ℕ
  pub dearest : ℕ

module _ {State : Type 0} (m : Machine State) where
  pub record StepObeys (σ : State) : Type 0 where
    -- a step that goes on follows a way out of the node
    pub moves : m.run.ended (m.run.step σ) ≡ false → In (m.node (m.run.step σ)) (m.graph.ways (m.node σ))
    -- a save is a save of the graph, is told, and goes on
    pub saves : m.run.saves σ ≡ is_save (m.graph.role (m.node σ))
    pub tells : m.saves σ ≡ m.run.saves σ
    pub goes : m.run.saves σ ≡ true → m.run.ended (m.run.step σ) ≡ false
    -- a step draws the node's price at most where it goes on, and where the node is a save or EXIT
    pub spends : (κ : State) → m.run.ended (m.run.step σ) ≡ false → m.amount κ σ ≤ m.graph.price (m.node σ)
    pub completes : (κ : State) → ending (m.graph.role (m.node σ)) ≡ true → m.amount κ σ ≤ m.graph.price (m.node σ)
    -- and a saving more at most where it ends elsewhere
    pub ends : (κ : State) → m.amount κ σ ≤ m.graph.price (m.node σ) + m.dearest

  pub record Obeys : Type 0 where
    pub placeable : Placeable m.dearest m.graph
    pub first : m.node m.run.start ≡ 0
    pub begins : m.run.ended m.run.start ≡ false
    pub steps : (n k : ℕ) (σ : State) → Steps m.run n k σ → m.run.ended σ ≡ false → StepObeys σ
