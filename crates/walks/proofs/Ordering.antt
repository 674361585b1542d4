-- Along an order no walk comes back to a node, and the worths filled along it are the worths of the graph.
use Rattle.std.proofs.Common.{ℕ, zero, suc, ◌≤◌, List, [], ◌∷◌, ◌++◌, length, get_or, sym, refl, ◌∙◌, subst, arith}
use mathlib.Core.Path.{subst⁻¹}
use Rattle.std.proofs.lemmas.Bool.{cond-true}
use Rattle.paths.specs.Kind.{PathKind, Laws}
use Rattle.paths.specs.Net.{In, Complete, Listed}
use Rattle.paths.specs.Join.{value}
use Rattle.paths.specs.Price.{price_kind}
use Rattle.paths.specs.Worth.{worth_kind}
use Rattle.paths.proofs.Joining.{same_join}
use Rattle.walks.specs.Graph.{Graph, onward, net_of, Sound}
use Rattle.walks.specs.Walk.{Reachable}
use Rattle.walks.specs.Acceptance.{Unlooped}
use Rattle.walks.specs.Worth.{worth_within}
use Rattle.walks.specs.Order.{OrderFor, Leads, once, more, Filled, OrderRight, FilledRight, LoopRight}
use Rattle.walks.proofs.Steps.{Steps, steps_on}
use Rattle.walks.proofs.Walking.{Round, arrive, reached_yes, looped_reached, reached_looped}
use Rattle.walks.proofs.Worths.{worth_joined}
use Rattle.paths.proofs.KindLaws.{price_laws, worth_laws}

module _ (g : Graph) (order : List ℕ) where
  earlier : (p q n : ℕ) → p ≤ q → Listed order p n → Listed order q n
  earlier p q n h (i, below, e) = (i, omega (arith, below), e)

  module _ (for : OrderFor g order) where
    -- what steps lead to stands no later
    steps_listed : (l : List ℕ) (p a b : ℕ) → p ≤ length order → Listed order p a → Steps (onward g) a l b → Listed order p b
    steps_listed [] p a b h i e = subst (Listed order p) e i
    steps_listed (m ∷ l) p a b h (q, below, e) s =
        steps_listed l p m b h
        (earlier q p m (omega arith) (for.ordered q m (omega arith) (subst⁻¹ (λ (n : ℕ). In m (onward g n)) e s.0))) s.1

    -- a node that came back to itself would stand before itself
    no_round : (p n : ℕ) → p ≤ length order → Listed order p n → Round g n n → ⊥
    no_round zero n h (q, below, e) r = omega arith
    no_round (suc p) n h (q, below, e) r =
        let head = for.ordered q r.head (omega arith) (subst⁻¹ (λ (m : ℕ). In r.head (onward g m)) e r.leaves) in
        no_round p n (omega arith) (earlier q p n (omega arith) (steps_listed r.round q r.head n (omega arith) head r.back)) r

    module _ (sound : Sound g) where
      reachable_listed : (n : ℕ) → Reachable g n → Listed order (length order) n
      reachable_listed n r =
          let a = arrive g sound n r in steps_listed a.way (length order) a.start n (omega arith) (for.starts a.start a.starts) a.comes

      unlooped_along : Unlooped g
      unlooped_along n w =
          let q = looped_reached g sound n w in no_round (length order) n (omega arith) (reachable_listed n q.0) q.1

      -- for any kind of path value
      pub filled_worth : {V : Type 0} (k : PathKind V) → Laws k → (xs : List V) → Filled k g order xs
      filled_worth k laws xs worths n r =
          same_join k laws (value k (net_of g)) (Complete (net_of g) n) (get_or xs n k.empty) (worth_within k g g.size n)
          (worths.joined n (reachable_listed n r)) (worth_joined k laws g sound unlooped_along n r)
          ∙ sym (cond-true _ _ _ (reached_yes g sound n r))

pub order_right : OrderRight
order_right g sound order for = record { unlooped = unlooped_along g order for sound; reachable = reachable_listed g order for sound }

pub filled_right : FilledRight
filled_right g sound order for =
    (filled_worth g order for sound price_kind price_laws, filled_worth g order for sound worth_kind worth_laws)

module _ (g : Graph) where
  leads_steps : (m n : ℕ) → Leads g m n → (h : ℕ) × In h (onward g m) × ((l : List ℕ) × Steps (onward g) h l n)
  leads_steps m n (once i) = (n, i, ([], refl))
  leads_steps m t (more {n = n} d i) =
      let q = leads_steps m n d in
      (q.0, q.1, (q.2.0 ++ (t ∷ []), steps_on (onward g) q.2.0 (t ∷ []) q.0 n t q.2.1 (i, refl)))

  steps_lead : (l : List ℕ) (m h n : ℕ) → Leads g m h → Steps (onward g) h l n → Leads g m n
  steps_lead [] m h n d e = subst (Leads g m) e d
  steps_lead (t ∷ l) m h n d p = steps_lead l m t n (more d p.0) p.1

pub loop_right : LoopRight
loop_right g sound n = (
  λ w. let p = looped_reached g sound n w in let q = p.1 in (p.0, steps_lead g q.round n q.head n (once q.leaves) q.back),
  λ (p : Reachable g n × Leads g n n).
      let q = leads_steps g n n p.1 in
      reached_looped g sound n p.0 (record { lead = []; led = refl; head = q.0; leaves = q.1; round = q.2.0; back = q.2.1 }),
)
