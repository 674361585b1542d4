-- Tables of a graph some of whose idle nodes are saves. Assumes nothing.
--     marked marks n               node n is marked
--     as_save saving x             node x as a save: no way on, at the price of a saving
--     turned_node b saving x       node x, or where b is true the same as a save
--     turned_start starts idle reached n     n is a start, or the node after an idle one that is reached
--     Plain saving g plain         plain has the nodes of g, which is placeable, small, and of at most 1,024 nodes
--     Turns saving g plain t       t has the tables of g with the idle nodes that it marks turned into saves
--     Written t at entry u         u is t with another entry for node at
--     Settled saving g plain budget at t u     u is t once node at was tried as idle
use Rattle.std.specs.Prelude.{◌≡◌, ℕ, zero, suc, ◌+◌, ◌<◌, ◌≤◌, Bool, false, if◌then◌else◌, ◌&&◌, ◌||◌, List, [], length, slice_index_or, slice_set}
use Rattle.paths.specs.declared.node.Successors.TheVariants.{End}
use Rattle.paths.specs.declared.node.Node.{Node}
use Rattle.paths.specs.Net.{node_at, tabled, Described}
use Rattle.walks.specs.Graph.{Graph, net_of, Small}
use Rattle.walks.specs.Certified.{started}
use Rattle.walks.specs.Placing.{Within, idles, turned, allowed, dropped, Placeable}
use Rattle.placer.specs.declared.turned.Turned.{Turned}
use Rattle.placer.specs.declared.turned.Entry.{Entry}

abbrev pub marked : List Bool → ℕ → Bool
marked marks n = slice_index_or marks n false

abbrev pub as_save : ℕ → Node → Node
as_save saving x = record { slot = x.slot; price = saving; successors = End }

abbrev pub turned_node : Bool → ℕ → Node → Node
turned_node b saving x = if b then as_save saving x else x

abbrev pub turned_start : List Bool → List Bool → List Bool → ℕ → Bool
turned_start starts idle reached zero = marked starts zero
turned_start starts idle reached (suc n) = marked starts (suc n) || (marked idle n && marked reached n)

pub record Plain (saving : ℕ) (g : Graph) (plain : List Node) : Type 0 where
  pub placeable : Placeable saving g
  pub most : ℕ
  pub small : Small g most
  pub paid : saving ≤ most
  pub size : g.size ≤ 1024
  pub described : (n : ℕ) → n < g.size → Described plain (net_of g) n
  pub beyond : (n : ℕ) → g.size ≤ n → (tabled plain).ways n ≡ []

pub record Turns (saving : ℕ) (g : Graph) (plain : List Node) (t : Turned) : Type 0 where
  pub sized : (length t.nodes ≡ 1024) × (length t.starts ≡ 1024)
  pub idle : Within (marked t.saves) (idles g)
  pub nodes : (n : ℕ) → n < 1024 → node_at t.nodes n ≡ turned_node (marked t.saves n) saving (node_at plain n)
  pub starts : (n : ℕ) → n < 1024 → marked t.starts n ≡ started (turned saving g (marked t.saves)) n

pub record Written (t : Turned) (at : ℕ) (entry : Entry) (u : Turned) : Type 0 where
  pub nodes : u.nodes ≡ slice_set t.nodes at entry.node
  pub saves : u.saves ≡ slice_set t.saves at entry.save
  pub starts : u.starts ≡ slice_set t.starts (at + 1) entry.start

pub record Settled (saving : ℕ) (g : Graph) (plain : List Node) (budget at : ℕ) (t u : Turned) : Type 0 where
  -- a save is left out where the graph is accepted without it,
  pub saves : marked u.saves ≡ dropped (allowed saving g budget) 1 at (marked t.saves)
  -- and the tables are those of the saves that are left
  pub turns : Turns saving g plain u
