-- What a table says of a graph. Assumes nothing.
--     TableOf g nodes starts     g is sound, small, and of at most 1,024 nodes; the nodes are those of its walks, with no way
--                                out past them, and the starts are its starts
use Rattle.std.specs.Prelude.{◌≡◌, ℕ, ◌<◌, ◌≤◌, Bool, List, []}
use Rattle.paths.specs.declared.node.Node.{Node}
use Rattle.paths.specs.Net.{tabled, Described}
use Rattle.walks.specs.Graph.{Graph, net_of, Sound, Small}
use Rattle.walks.specs.Walk.{Start}
use Rattle.search.specs.Reach.{Tells}

pub record TableOf (g : Graph) (nodes : List Node) (starts : List Bool) : Type 0 where
  pub sound : Sound g
  -- a price that none of its nodes is above
  pub most : ℕ
  pub small : Small g most
  pub size : g.size ≤ 1024
  pub described : (n : ℕ) → n < g.size → Described nodes (net_of g) n
  pub beyond : (n : ℕ) → g.size ≤ n → (tabled nodes).ways n ≡ []
  pub told : Tells starts (Start g)
