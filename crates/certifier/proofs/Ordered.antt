-- The judgement that follows an order: the list is filled along it, and the starts in it are looked at.
use Rattle.std.proofs.Common.{◌≡◌, ℕ, ◌<◌, ◌≤◌, Bool, List, [], length, Result}
use Rattle.isa.specs.declared.refusal.Refusal.{Refusal}
use Rattle.isa.specs.First.{first_below}
use Rattle.isa.specs.Refusal.{ok_unless}
use Rattle.paths.specs.declared.node.Node.{Node}
use Rattle.paths.specs.Kind.{PathKind, Laws}
use Rattle.paths.specs.Net.{Net, tabled, Described}
use Rattle.paths.specs.Fill.{Untouched, OrderOf, Worths}
use Rattle.walks.specs.Graph.{Graph, net_of, Sound}
use Rattle.walks.specs.Walk.{Start}
use Rattle.walks.proofs.Ordering.{order_right}
use Rattle.search.specs.Reach.{Tells}
use Rattle.search.specs.Order.{Sorted}
use Rattle.certifier.specs.Clear.{Cleared}
use Rattle.certifier.specs.Judge.{over_at, Judged}
use Rattle.certifier.proofs.Searching.{listed_reachable, order_for, order_of}
use Rattle.certifier.proofs.Filling.{worths_left}
use Rattle.certifier.proofs.Judging.{judged_charge}

module _ (g : Graph) (sound : Sound g) (small : g.size ≤ 1024) (nodes : List Node)
    (described : (n : ℕ) → n < g.size → Described nodes (net_of g) n) (beyond : (n : ℕ) → g.size ≤ n → (tabled nodes).ways n ≡ [])
    (starts : List Bool) (length-starts : length starts ≤ 1024) (told : Tells starts (Start g))
    (order : List ℕ) (sorted : Sorted (tabled nodes) starts order) where
  pub judged_ordered : {V : Type 0} (k : PathKind V) (laws : Laws k) (price : V → ℕ) (budget : ℕ) (old cleared new : List V)
      → 1024 ≤ length cleared → length new ≡ length old
      → Cleared k g.size old cleared → Untouched order cleared new k.empty
      → ((h : Net) → OrderOf nodes h order (length cleared) → Worths k h order new)
      → (r : Result (Unit {0}) Refusal) → r ≡ ok_unless (first_below (over_at price k.empty new starts budget) 1024) tt
      → Judged k price g budget old new r
  judged_ordered k laws price budget old cleared new room size clear untouched fill r e =
      let for = order_for g sound small nodes described beyond starts length-starts told order sorted in
      let only = listed_reachable g sound small nodes described beyond starts length-starts told order sorted in
      let worths = fill (net_of g) (order_of g sound small nodes described beyond starts length-starts told order sorted (length cleared) room) in
      judged_charge k price g sound small budget starts told old new (worths_left k laws g sound order for only old cleared new size clear untouched worths)
      (order_right g sound order for).unlooped r e
