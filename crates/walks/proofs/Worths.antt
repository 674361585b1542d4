-- The worth of a node joins its complete lists; where values have prices, it has the dearest of them.
use Rattle.std.proofs.Common.{◌≡◌, ℕ, zero, suc, ◌<◌, ◌≤◌, max, true, List, [], ◌∷◌, length, sym, refl, ap, ◌∙◌, subst, ⊎_elim, arith}
use Rattle.std.proofs.lemmas.Bool.{cases_lt, cond-true}
use Rattle.paths.specs.Kind.{PathKind, Laws}
use Rattle.paths.specs.Net.{Complete, ends, goes}
use Rattle.paths.specs.Join.{value, Made, one, two, JoinFrom}
use Rattle.paths.proofs.Joining.{join_node}
use Rattle.walks.specs.Graph.{Graph, ending, onward, net_of, Sound}
use Rattle.walks.specs.Walk.{Reachable, Chain, CompleteList, walk_price}
use Rattle.walks.specs.Acceptance.{Unlooped, Dearest}
use Rattle.walks.specs.Worth.{worth_within}
use Rattle.walks.proofs.Walking.{onward_inside, chain_short}

module _ {V : Type 0} (k : PathKind V) (laws : Laws k) (g : Graph) where
  -- as many steps as the longest list has suffice
  worth_join : (steps n : ℕ) → ((l : List ℕ) → Chain g n l → length (n ∷ l) ≤ steps) → JoinFrom k (net_of g) n (worth_within k g steps n)
  worth_join zero n short = absurd (let z : 1 ≤ 0 = short [] tt in omega arith)
  worth_join (suc steps) n short =
      join_node k laws (net_of g) n (worth_within k g steps)
      (λ t i. worth_join steps t (λ l c. let z : suc (suc (length l)) ≤ suc steps = short (t ∷ l) (i, c) in omega arith))

  pub worth_joined : Sound g → Unlooped g → (n : ℕ) → Reachable g n → JoinFrom k (net_of g) n (worth_within k g g.size n)
  worth_joined sound unlooped n r = worth_join g.size n (λ l c. chain_short g sound unlooped n l r c)

module _ (g : Graph) where
  -- the complete lists of the net are those of the graph
  pub list_complete : (l : List ℕ) (n : ℕ) → CompleteList g n l → Complete (net_of g) n (n ∷ l)
  list_complete [] n c = ends (cond-true _ _ _ c.1)
  list_complete (t ∷ l) n c = goes c.0.0 (list_complete l t (c.0.1, c.1))

  module _ (sound : Sound g) where
    no_onward : (n : ℕ) → n < g.size → onward g n ≡ [] → ending (g.role n) ≡ true
    no_onward n e t = grind arith

    pub complete_list : (w : List ℕ) (n : ℕ) → n < g.size → Complete (net_of g) n w → (l : List ℕ) × (w ≡ n ∷ l) × CompleteList g n l
    complete_list w n h (ends e) = ([], refl, (tt, no_onward n h e))
    complete_list w n h (goes {t = t} {l = v} i c) =
        let q = complete_list v t (onward_inside g sound n t h i) c in
        (t ∷ q.0, ap (λ (u : List ℕ). n ∷ u) q.1, ((i, q.2.0), q.2.1))

    -- values with prices, joined by the greater
    module _ {V : Type 0} (k : PathKind V) (price : V → ℕ) (greater : (x y : V) → price (k.join x y) ≡ max (price x) (price y)) where
      made_met : (P : List ℕ → Type 0) (x : V) → Made k (value k (net_of g)) P x → (w : List ℕ) × P w × (price (value k (net_of g) w) ≡ price x)
      made_met P x (one {a = w} p) = (w, p, refl)
      made_met P x (two {x = y} {y = z} a b) =
          let q = made_met P y a in
          let r = made_met P z b in
          let e = greater y z in
          ⊎_elim (λ (h : price y < price z). let f = r.2 in (r.0, r.1, omega arith)) (λ (h : price z ≤ price y). let f = q.2 in (q.0, q.1, omega arith))
          (cases_lt (price y) (price z))

      pub joined_dearest : (n : ℕ) (x : V) → n < g.size → JoinFrom k (net_of g) n x
          → ((l : List ℕ) → CompleteList g n l → price (value k (net_of g) (n ∷ l)) ≡ walk_price g (n ∷ l)) → Dearest g n (price x)
      joined_dearest n x h join priced =
          let m = made_met (Complete (net_of g) n) x join.made in
          let c = complete_list m.0 n h m.1 in
          let e : price (value k (net_of g) (n ∷ c.0)) ≡ price x = subst (λ (w : List ℕ). price (value k (net_of g) w) ≡ price x) c.1 m.2 in
          record {
            met = (c.0, c.2, sym (priced c.0 c.2) ∙ e);
            most = λ l d.
                let v = value k (net_of g) (n ∷ l) in
                let a : price (k.join v x) ≡ price x = ap price (join.covers (n ∷ l) (list_complete l n d)) in
                let b = greater v x in
                let f = priced l d in
                omega arith;
          }
