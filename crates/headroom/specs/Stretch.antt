-- The dearest stretch, read off the worths of a graph's nodes. Assumes nothing.
--     worth_at worths n         the worth that a list has at n; the empty one past its end
--     next_on worths ways       the way out that the dearest list takes: the one with the joined worth, or none
--     Charted g nodes worths    a table describes the walks of a graph without loops, and a list has the worths of its nodes
--     costs g n                 the price of the dearest complete list from n
--     Goes g n o                o is where the dearest list from n goes on: nowhere from where a walk ends, and else to a node that
--                               it may go on to, from which the rest costs what n does not
--     OnwardRight               where a graph is charted, the way out that is found is so
--     Dearest starts worths n   no start has a greater price than n, and none before it as great a one; n is slot 0, or a start that is
--                               dearer than slot 0
use Rattle.std.specs.Prelude.{◌≡◌, ℕ, ◌+◌, ◌<◌, ◌≤◌, Bool, true, false, ◌⊎◌, List, [], Some, None, Option, slice_index_or}
use Rattle.paths.specs.declared.node.Node.{Node}
use Rattle.paths.specs.declared.node.Successors.{Successors}
use Rattle.paths.specs.declared.node.Successors.TheVariants.{End, One, Both}
use Rattle.paths.specs.declared.worth.Worth.{Worth}
use Rattle.paths.specs.Net.{In, node_at, Described}
use Rattle.paths.specs.Worth.{worth_kind}
use Rattle.walks.specs.Graph.{Graph, onward, net_of, Sound, Small}
use Rattle.walks.specs.Walk.{Reachable}
use Rattle.walks.specs.Acceptance.{Unlooped}
use Rattle.walks.specs.Worth.{worth_of}

abbrev pub worth_at : List Worth → ℕ → Worth
worth_at worths n = slice_index_or worths n (record { price = 0; slot = 0 })

abbrev pub next_on : List Worth → Successors → Option ℕ
next_on worths End = None
next_on worths (One a) = Some a
next_on worths (Both a b) = Some (worth_kind.join (worth_at worths a) (worth_at worths b)).slot

pub record Charted (g : Graph) (nodes : List Node) (worths : List Worth) : Type 0 where
  pub sound : Sound g
  pub unlooped : Unlooped g
  pub most : ℕ
  pub small : Small g most
  -- its nodes are slots
  pub slots : (n : ℕ) → g.slot n ≡ n
  pub described : (n : ℕ) → n < g.size → Described nodes (net_of g) n
  pub held : (n : ℕ) → n < g.size → worth_at worths n ≡ worth_of worth_kind g n

abbrev pub costs : Graph → ℕ → ℕ
costs g n = (worth_of worth_kind g n).price

abbrev pub Goes : Graph → ℕ → Option ℕ → Type 0
Goes g n None = onward g n ≡ []
Goes g n (Some t) = In t (onward g n) × (costs g n ≡ g.price n + costs g t)

abbrev pub OnwardRight : Type 0
OnwardRight =
    (g : Graph) (nodes : List Node) (worths : List Worth) → Charted g nodes worths
    → (n : ℕ) → Reachable g n → Goes g n (next_on worths (node_at nodes n).successors)

pub record Dearest (starts : List Bool) (worths : List Worth) (n : ℕ) : Type 0 where
  pub most : (k : ℕ) → k < 1024 → slice_index_or starts k false ≡ true → (worth_at worths k).price ≤ (worth_at worths n).price
  pub lowest : (k : ℕ) → k < n → slice_index_or starts k false ≡ true → (worth_at worths k).price < (worth_at worths n).price
  pub start : (n ≡ 0) ⊎ ((slice_index_or starts n false ≡ true) × ((worth_at worths 0).price < (worth_at worths n).price))
