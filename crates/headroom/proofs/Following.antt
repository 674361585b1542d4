-- The joined worth of the ways out names the way out that it comes from, and the rest of the price lies there.
use Rattle.std.proofs.Common.{◌≡◌, ℕ, ◌+◌, ◌-◌, ◌^◌, min, Bool, true, false, cond, List, ◌∷◌, Some, refl, ap, ◌∙◌, inl, inr, arith}
use mathlib.Core.Path.{subst⁻¹}
use native.Mathlib.Nat.{min-le_left}
use Rattle.paths.specs.declared.node.Node.{Node}
use Rattle.paths.specs.declared.node.Successors.{Successors}
use Rattle.paths.specs.declared.node.Successors.TheVariants.{End, One, Both}
use Rattle.paths.specs.declared.worth.Worth.{Worth}
use Rattle.paths.specs.Net.{In, ways_of, node_at}
use Rattle.paths.specs.Join.{join_over}
use Rattle.paths.specs.Worth.{leads, worth_kind}
use Rattle.walks.specs.Graph.{Graph, onward}
use Rattle.walks.specs.Walk.{Reachable, next, walk_price}
use Rattle.walks.specs.Worth.{worth_of, WorthsIn}
use Rattle.walks.proofs.Walking.{onward_way, reach_below}
use Rattle.walks.proofs.TwoKinds.{worth_right}
use Rattle.headroom.specs.Stretch.{worth_at, next_on, Charted, costs, Goes, OnwardRight}

module _ (g : Graph) (nodes : List Node) (worths : List Worth) (charted : Charted g nodes worths) where
  abbrev worth : ℕ → Worth
  worth = worth_of worth_kind g

  known : WorthsIn worth_kind (λ (x : Worth). x.price) g worth
  known = (worth_right g charted.sound charted.unlooped).worths

  -- the worth of a reachable node names it
  named : (n : ℕ) → Reachable g n → (worth n).slot ≡ n
  named n r = ap (λ (x : Worth). x.slot) (known.extended n r) ∙ charted.slots n

  held : (n : ℕ) → Reachable g n → worth_at worths n ≡ worth n
  held n r = charted.held n (reach_below g charted.sound n r)

  module _ (n : ℕ) (r : Reachable g n) where
    arrives : (t : ℕ) → In t (onward g n) → Reachable g t
    arrives t i = next r (onward_way g n t i)

    -- the price of n is its own and that of a node that its joined worth comes from
    split : (t : ℕ) → In t (onward g n) → join_over worth_kind worth (onward g n) ≡ worth t → costs g n ≡ g.price n + costs g t
    split t i e =
        let whole : costs g n ≡ min (costs g t + g.price n) (2 ^ 64 - 1) =
        ap (λ (x : Worth). x.price) (known.extended n r) ∙ ap (λ (x : Worth). min (x.price + g.price n) (2 ^ 64 - 1)) e in
        let low = min-le_left (costs g t + g.price n) (2 ^ 64 - 1) in
        let rest = (known.dearest charted.most charted.small t (arrives t i)).met in
        let high = (known.dearest charted.most charted.small n r).most (t ∷ rest.0) ((i, rest.1.0), rest.1.1) in
        let paid : walk_price g (t ∷ rest.0) ≡ costs g t = rest.2 in
        omega arith

    follow : (s : Successors) → onward g n ≡ ways_of s → Goes g n (next_on worths s)
    follow End e = e
    follow (One a) e =
        let i : In a (onward g n) = subst⁻¹ (In a) e (inl refl) in
        (i, split a i (ap (join_over worth_kind worth) e))
    follow (Both a b) e = go (leads (worth a) (worth b)) refl
      where
        ia : In a (onward g n)
        ia = subst⁻¹ (In a) e (inl refl)

        ib : In b (onward g n)
        ib = subst⁻¹ (In b) e (inr (inl refl))

        join_held : worth_kind.join (worth_at worths a) (worth_at worths b) ≡ worth_kind.join (worth a) (worth b)
        join_held =
            ap (λ (x : Worth). worth_kind.join x (worth_at worths b)) (held a (arrives a ia)) ∙ ap (λ (y : Worth). worth_kind.join (worth a) y) (held b (arrives b ib))

        -- the joined worth is that of t, so it names t
        from : (t : ℕ) → In t (onward g n) → worth_kind.join (worth a) (worth b) ≡ worth t → Goes g n (next_on worths (Both a b))
        from t i j =
            let name : (worth_kind.join (worth_at worths a) (worth_at worths b)).slot ≡ t =
            ap (λ (x : Worth). x.slot) (join_held ∙ j) ∙ named t (arrives t i) in
            subst⁻¹ (λ (x : ℕ). Goes g n (Some x)) name (i, split t i (ap (join_over worth_kind worth) e ∙ j))

        go : (l : Bool) → leads (worth a) (worth b) ≡ l → Goes g n (next_on worths (Both a b))
        go true p = from a ia (ap (λ (l : Bool). cond l (worth a) (worth b)) p)
        go false p = from b ib (ap (λ (l : Bool). cond l (worth a) (worth b)) p)

pub onward_right : OnwardRight
onward_right g nodes worths charted n r =
    follow g nodes worths charted n r (node_at nodes n).successors (charted.described n (reach_below g charted.sound n r)).ways
