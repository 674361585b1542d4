-- What the searches over the tables of a graph say of its walks.
use Rattle.std.proofs.Common.{◌≡◌, ℕ, ◌<◌, ◌≤◌, Bool, true, false, List, [], ◌∷◌, length, get_or, sym, refl, ◌∙◌, subst, ⊎_elim, true≢false, arith}
use mathlib.Core.Path.{subst⁻¹}
use lib.ListN.{get_or-eq_default}
use Rattle.std.proofs.lemmas.Bool.{cases_lt}
use Rattle.paths.specs.declared.node.Node.{Node}
use Rattle.paths.specs.Net.{In, Listed, tabled, Described}
use Rattle.paths.specs.Fill.{OrderOf}
use Rattle.walks.specs.Graph.{Graph, onward, net_of, Sound}
use Rattle.walks.specs.Walk.{Reachable, next, Start}
use Rattle.walks.specs.Acceptance.{Lowest, Looped}
use Rattle.walks.specs.Order.{OrderFor, Leads, once, more}
use Rattle.walks.proofs.Steps.{Steps}
use Rattle.walks.proofs.Walking.{onward_way, reach_below, start_reached, arrive}
use Rattle.walks.proofs.Ordering.{loop_right}
use Rattle.search.specs.Reach.{Reaches, itself, onward as further, Reached, Leads as LeadsIn, Looped as LoopedIn, Tells}
use Rattle.search.specs.Order.{Sorted}
use Rattle.search.specs.Loops.{Least}

module _ (g : Graph) (sound : Sound g) (small : g.size ≤ 1024) (nodes : List Node)
    (described : (n : ℕ) → n < g.size → Described nodes (net_of g) n) (beyond : (n : ℕ) → g.size ≤ n → (tabled nodes).ways n ≡ []) where
  node_onward : (n t : ℕ) → In t ((tabled nodes).ways n) → In t (onward g n)
  node_onward n t i =
      ⊎_elim
      (λ (h : n < g.size). subst⁻¹ (In t) (described n h).ways i)
      (λ (h : g.size ≤ n). absurd (let none : In t [] = subst (In t) (beyond n h) i in none))
      (cases_lt n g.size)

  onward_node : (n t : ℕ) → n < g.size → In t (onward g n) → In t ((tabled nodes).ways n)
  onward_node n t h i = subst (In t) (described n h).ways i

  below : (n : ℕ) → Reachable g n → n < g.size
  below n r = reach_below g sound n r

  reaches_on : (n t : ℕ) → Reachable g n → Reaches (tabled nodes) n t → Reachable g t
  reaches_on n t r itself = r
  reaches_on n t r (further {m = m} s i) = next (reaches_on n m r s) (onward_way g m t (node_onward m t i))

  -- a way back in the table is one in the graph
  leads_on : (n t m : ℕ) → Reaches (tabled nodes) n m → In t (onward g m) → Leads g n t
  leads_on n t m itself i = once i
  leads_on n t m (further {m = k} s j) i = more (leads_on n m k s (node_onward k m j)) i

  leads_in : (n t : ℕ) → Reachable g n → Leads g n t → Reachable g t × LeadsIn (tabled nodes) n t
  leads_in n t r (once i) =
      (next r (onward_way g n t i), record { before = n; reaches = itself; last = onward_node n t (below n r) i })
  leads_in n t r (more {n = k} d i) =
      let q = leads_in n k r d in
      (next q.0 (onward_way g k t i), record { before = k; reaches = further q.1.reaches q.1.last; last = onward_node k t (below k q.0) i })

  module _ (starts : List Bool) (length-starts : length starts ≤ 1024) (told : Tells starts (Start g)) where
    chosen_below : (n : ℕ) → get_or starts n false ≡ true → n < 1024
    chosen_below n e =
        ⊎_elim (λ (h : n < 1024). h)
        (λ (h : 1024 ≤ n). absurd (true≢false (sym e ∙ get_or-eq_default starts false (omega arith))))
        (cases_lt n 1024)

    reached_reachable : (n : ℕ) → Reached (tabled nodes) starts n → Reachable g n
    reached_reachable n r =
        let h = chosen_below r.start r.chosen in
        reaches_on r.start n (start_reached g sound r.start ((told r.start h).0 r.chosen)) r.reaches

    start_chosen : (n : ℕ) → Start g n → get_or starts n false ≡ true
    start_chosen n s = let b = below n (start_reached g sound n s) in (told n (omega arith)).1 s

    steps_reach : (l : List ℕ) (s a n : ℕ) → Reachable g a → Reaches (tabled nodes) s a → Steps (onward g) a l n → Reaches (tabled nodes) s n
    steps_reach [] s a n r p e = subst (Reaches (tabled nodes) s) e p
    steps_reach (t ∷ l) s a n r p q =
        steps_reach l s t n (next r (onward_way g a t q.0)) (further p (onward_node a t (below a r) q.0)) q.1

    reachable_reached : (n : ℕ) → Reachable g n → Reached (tabled nodes) starts n
    reachable_reached n r =
        let a = arrive g sound n r in
        let s = start_reached g sound a.start a.starts in
        record { start = a.start; chosen = start_chosen a.start a.starts; reaches = steps_reach a.way a.start a.start n s itself a.comes }

    looped_in : (n : ℕ) → Looped g n → LoopedIn (tabled nodes) starts n
    looped_in n w =
        let p = (loop_right g sound n).0 w in record { reached = reachable_reached n p.0; on_loop = (leads_in n n p.0 p.1).1 }

    pub looped_on : (n : ℕ) → LoopedIn (tabled nodes) starts n → Looped g n
    looped_on n w =
        let l = w.on_loop in
        (loop_right g sound n).1 (reached_reachable n w.reached, leads_on n n l.before l.reaches (node_onward l.before n l.last))

    -- the lowest node that the search finds on a loop is the lowest that some walk holds twice
    pub lowest_looped : (n : ℕ) → Least (LoopedIn (tabled nodes) starts) n → Lowest (Looped g) n
    lowest_looped n l = record { has = looped_on n l.holds; least = λ k h w. l.below k h (looped_in k w) }

    module _ (order : List ℕ) (sorted : Sorted (tabled nodes) starts order) where
      pub listed_reachable : (n : ℕ) → Listed order (length order) n → Reachable g n
      listed_reachable n l = reached_reachable n ((sorted.exact n).0 l).1

      at_reachable : (p : ℕ) → p < length order → Reachable g (get_or order p 0)
      at_reachable p h = listed_reachable (get_or order p 0) (p, h, refl)

      pub order_for : OrderFor g order
      order_for =
          record {
            ordered = λ p t h i.
                let r = at_reachable p h in
                let b = below t (next r (onward_way g (get_or order p 0) t i)) in
                sorted.after p t h (onward_node (get_or order p 0) t (below (get_or order p 0) r) i) (omega arith);
            starts = λ n s.
                let r = start_reached g sound n s in
                let b = below n r in
                (sorted.exact n).1 (omega arith, reachable_reached n r);
          }

      pub order_of : (room : ℕ) → 1024 ≤ room → OrderOf nodes (net_of g) order room
      order_of room h =
          record {
            described = λ p l. described (get_or order p 0) (below (get_or order p 0) (at_reachable p l));
            ordered = order_for.ordered;
            inside = λ p l. let b = below (get_or order p 0) (at_reachable p l) in omega arith;
          }
