-- The chart of an image: its nodes and its starts, found together. Assumes nothing.
--     staying_in o n               o is a legal instruction whose ways out stay in an image of n slots
--     opened_at m i o              slot i with all its ways out, and its price in the model m, where o is its legal
--                                  instruction; no node where it has none
--     closed save n                a node as walks go on from it, given whether it is a save
--     charted_at m i o             slot i as walks go along it; no node where it has no legal instruction
--     started_after saves reached i     i is slot 0, or the slot after a save that is reached
--     ChartOf g nodes starts       what the nodes and the starts say of a graph
use Rattle.std.specs.Prelude.{◌≡◌, ℕ, ◌<◌, ◌≤◌, ◌-◌, Bool, false, if◌then◌else◌, ◌&&◌, ◌||◌, List, [], Some, None, Option, ◌==◌, is_none, slice_index_or}
use Rattle.isa.specs.declared.instruction.Instruction.{Instruction}
use Rattle.isa.specs.Lawful.{leaving_by}
use Rattle.pricing.specs.Model.{Model}
use Rattle.paths.specs.declared.node.Successors.TheVariants.{End}
use Rattle.paths.specs.declared.node.Node.{Node}
use Rattle.paths.specs.Net.{no_node, tabled, Described}
use Rattle.walks.specs.Graph.{Graph, net_of}
use Rattle.walks.specs.Walk.{Start}
use Rattle.walks.specs.ImageGraph.{price_of}
use Rattle.search.specs.Reach.{Tells}
use Rattle.tables.specs.Node.{successors_of, node}
use Rattle.tables.specs.Walk.{onward_of}

abbrev pub staying_in : Option Instruction → ℕ → Bool
staying_in None n = false
staying_in (Some x) n = is_none (leaving_by x n)

abbrev pub opened_at : Model → ℕ → Option Instruction → Node
opened_at m i None = no_node
opened_at m i (Some x) = node i (price_of m x) (successors_of x)

abbrev pub closed : Bool → Node → Node
closed save n = node n.slot n.price (if save then End else n.successors)

abbrev pub charted_at : Model → ℕ → Option Instruction → Node
charted_at m i None = no_node
charted_at m i (Some x) = node i (price_of m x) (onward_of x)

abbrev pub started_after : List Bool → List Bool → ℕ → Bool
started_after saves reached i = i == 0 || slice_index_or saves (i - 1) false && slice_index_or reached (i - 1) false

pub record ChartOf (g : Graph) (nodes : List Node) (starts : List Bool) : Type 0 where
  -- the nodes of the graph as its walks go along them, and no way out past them
  pub described : (n : ℕ) → n < g.size → Described nodes (net_of g) n
  pub beyond : (n : ℕ) → g.size ≤ n → (tabled nodes).ways n ≡ []
  pub told : Tells starts (Start g)
