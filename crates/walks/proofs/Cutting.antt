-- Where more nodes end a walk, at no more than a saving each, what was accepted stays accepted.
use Rattle.std.proofs.Common.{◌≡◌, ℕ, ◌≤◌, true, false, ◌⊎◌, List, [], ◌∷◌, ◌++◌, subst, ⊎_elim, arith}
use Rattle.paths.specs.Net.{In}
use Rattle.walks.specs.Graph.{Graph, ending, onward, Sound}
use Rattle.walks.specs.Walk.{Reachable, first, next, Chain, CompleteList, Walk, walk_price}
use Rattle.walks.specs.Acceptance.{Twice, Unlooped, Accepted}
use Rattle.walks.proofs.Steps.{twice_on}
use Rattle.walks.proofs.Walking.{onward_way, onward_goes, arrive, chain_on, ends_on, price_after, ends_dear, start_reached}
use Rattle.walks.proofs.Certifying.{dearest_is}

-- h has the ways of g, and ends walks at least where g does; what it adds costs a saving at most, and every ending of g one at least
pub record Cut (saving : ℕ) (g h : Graph) : Type 0 where
  pub ways : (n : ℕ) → h.ways n ≡ g.ways n
  pub goes : (n : ℕ) → ending (h.role n) ≡ false → (ending (g.role n) ≡ false) × (h.price n ≤ g.price n)
  pub ends : (n : ℕ) → ending (h.role n) ≡ true → ((ending (g.role n) ≡ true) × (h.price n ≤ g.price n)) ⊎ (h.price n ≤ saving)
  pub endings : (n : ℕ) → ending (g.role n) ≡ true → saving ≤ g.price n

module _ (saving : ℕ) (g h : Graph) (cut : Cut saving g h) where
  cut_reach : (n : ℕ) → Reachable h n → Reachable g n
  cut_reach n first = first
  cut_reach n (next {n = m} r i) = next (cut_reach m r) (subst (λ (l : List ℕ). In n l) (cut.ways m) i)

  cut_onward : (n t : ℕ) → In t (onward h n) → In t (onward g n)
  cut_onward n t e = grind arith

  cut_chain : (l : List ℕ) (n : ℕ) → Chain h n l → Chain g n l
  cut_chain [] n c = tt
  cut_chain (t ∷ l) n c = (cut_onward n t c.0, cut_chain l t c.1)

  module _ (sound : Sound g) (sound-cut : Sound h) where
    -- a complete list of h goes on to one of g that is no cheaper
    finish : Unlooped g → (l : List ℕ) (n : ℕ) → Reachable g n → CompleteList h n l
        → (w : List ℕ) × CompleteList g n w × (walk_price h (n ∷ l) ≤ walk_price g (n ∷ w))
    finish unlooped [] n r c =
        ⊎_elim (λ (x : (ending (g.role n) ≡ true) × (h.price n ≤ g.price n)). let y = x.1 in ([], (tt, x.0), omega arith))
        (λ (x : h.price n ≤ saving).
        let q = (dearest_is g sound unlooped n r).met in
        let y = ends_dear g saving cut.endings q.0 n q.1.1 in
        (q.0, q.1, omega arith))
        (cut.ends n c.1)
    finish unlooped (t ∷ l) n r c =
        let i = cut_onward n t c.0.0 in
        let q = finish unlooped l t (next r (onward_way g n t i)) (c.0.1, c.1) in
        let y = q.2 in
        let z = (cut.goes n (onward_goes h n t c.0.0)).1 in
        (t ∷ q.0, ((i, q.1.0), q.1.1), omega arith)

    pub cut_accepted : (budget : ℕ) → Accepted g budget → Accepted h budget
    cut_accepted budget a =
        record {
          unlooped = λ x q. unlooped x q.0 q.1 q.2;
          paid = λ n o.
              let r = cut_reach n (start_reached h sound-cut n o.1.0) in
              let f = finish a.unlooped o.0 n r o.1.1 in
              let v = arrive g sound n r in
              let x = f.2 in
              let y = price_after g v.way f.0 v.start n v.comes in
              let z = o.2 in
              a.paid v.start (
                v.way ++ f.0,
                (
                  v.starts,
                  (chain_on g v.way f.0 v.start n v.comes f.1.0, ends_on g v.way f.0 v.start n v.comes f.1.1),
                ),
                omega arith,
              );
        }
      where
        unlooped : (x : ℕ) (w : List ℕ) → Walk h w → Twice x w → ⊥
        unlooped x [] w t = t
        unlooped x (n ∷ l) w t =
            let v = arrive g sound n (cut_reach n (start_reached h sound-cut n w.0)) in
            a.unlooped x (
              v.start ∷ (v.way ++ l),
              (v.starts, chain_on g v.way l v.start n v.comes (cut_chain l n w.1)),
              twice_on (onward g) v.way l v.start n x v.comes t,
            )
