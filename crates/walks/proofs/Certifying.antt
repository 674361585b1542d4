-- The computed answer says what is so, and no other answer does.
use Rattle.std.proofs.Common.{◌≡◌, ℕ, ◌<◌, ◌≤◌, Bool, true, cond, ltb, List, [], ◌∷◌, ◌++◌, Some, None, Option, refl, ap, subst, arith}
use mathlib.Core.Path.{subst⁻¹}
use Rattle.std.proofs.lemmas.Bool.{and_parts, and_from, ltb-true, lt-ltb}
use Rattle.isa.proofs.First.{none_each, first_of}
use Rattle.paths.specs.Kind.{Laws}
use Rattle.paths.specs.Join.{value}
use Rattle.walks.specs.Graph.{Graph, net_of, Sound}
use Rattle.walks.specs.Walk.{Reachable, Start, Walk, walk_price}
use Rattle.walks.specs.Acceptance.{Lowest, Looped, Unlooped, OverBudget, Dearest, Answer, accepted, loop, over, Means}
use Rattle.walks.specs.Certified.{lowest_below, sum_kind, looped, started, dearest, overspends, charged, answered, certified, CertifiedRight, WalksComplete}
use Rattle.walks.proofs.Walking.{reach_below, start_reached, reach_on, chain_on, ends_on, chain_last, looped_yes, looped_is, looped_reached, started_yes, started_is}
use Rattle.walks.proofs.Worths.{worth_joined, joined_dearest}

-- what the search for the lowest number finds
module _ (f : ℕ → Bool) where
  picked : (b : Bool) (a r : ℕ) → cond b (Some a) None ≡ Some r → (b ≡ true) × (a ≡ r)
  picked b a r e = grind arith

  passed_over : (b : Bool) (a : ℕ) → cond b (Some a) None ≡ None → b ≡ true → ⊥
  passed_over b a e t = grind arith

  pub lowest_none : (n : ℕ) → lowest_below f n ≡ None → (m : ℕ) → m < n → f m ≡ true → ⊥
  lowest_none n e m h = passed_over (f m) m (none_each (λ i. cond (f i) (Some i) None) n e m h)

  pub lowest_some : (n r : ℕ) → lowest_below f n ≡ Some r → (f r ≡ true) × ((m : ℕ) → m < r → f m ≡ true → ⊥)
  lowest_some n r e =
      let p = first_of (λ i. cond (f i) (Some i) None) n r e in
      let q = picked (f p.at) p.at r p.given in
      let same = q.1 in
      (subst (λ (i : ℕ). f i ≡ true) q.1 q.0, λ m h. passed_over (f m) m (p.before m (omega arith)))

sum_laws : Laws sum_kind
sum_laws = record { associative = λ x y z. omega arith; commutative = λ x y. omega arith; idempotent = λ x. omega arith; spreads = λ x y s p. omega arith }

module _ (g : Graph) where
  -- the answer, from any dearest prices of the starts
  module _ (unlooped : Unlooped g) (price : ℕ → ℕ) (dearest : (n : ℕ) → Start g n → Dearest g n (price n)) where
    over_dear : (budget n : ℕ) → OverBudget g budget n → budget < price n
    over_dear budget n o = let most = (dearest n o.1.0).most o.0 o.1.1 in let h = o.2 in omega arith

    pub means_accepted : (budget : ℕ) → ((n : ℕ) → Start g n → budget < price n → ⊥) → Means g budget accepted
    means_accepted budget none = record { unlooped = unlooped; paid = λ n o. none n o.1.0 (over_dear budget n o) }

    pub means_over : (budget n : ℕ) → Start g n → budget < price n → ((m : ℕ) → m < n → Start g m → budget < price m → ⊥)
        → Means g budget (over n (price n))
    means_over budget n start h before =
        let d = dearest n start in
        let met = d.met in
        let e = met.2 in
        record {
          unlooped = unlooped;
          lowest = record { has = (met.0, (start, met.1), omega arith); least = λ m l o. before m l o.1.0 (over_dear budget m o) };
          dearest = d;
        }

  sum_value : (w : List ℕ) → value sum_kind (net_of g) w ≡ walk_price g w
  sum_value [] = refl
  sum_value (n ∷ w) = let h = sum_value w in omega arith

  price_on : (l r : List ℕ) → walk_price g l ≤ walk_price g (l ++ r)
  price_on [] r = omega arith
  price_on (n ∷ l) r = let h = price_on l r in omega arith

  module _ (sound : Sound g) (unlooped : Unlooped g) where
    pub dearest_is : (n : ℕ) → Reachable g n → Dearest g n (dearest g n)
    dearest_is n r =
        joined_dearest g sound sum_kind (λ x. x) (λ x y. refl) n (dearest g n) (reach_below g sound n r)
        (worth_joined sum_kind sum_laws g sound unlooped n r) (λ l c. sum_value (n ∷ l))

    -- a walk goes on to a complete one
    pub walk_complete : (budget n : ℕ) (l : List ℕ) → Walk g (n ∷ l) → budget < walk_price g (n ∷ l) → OverBudget g budget n
    walk_complete budget n l w h =
        let q = chain_last g l n w.1 in
        let m = (dearest_is q.0 (reach_on g l n q.0 (start_reached g sound n w.0) q.1)).met in
        let p = price_on l m.0 in
        (l ++ m.0, (w.0, (chain_on g l m.0 n q.0 q.1 m.1.0, ends_on g l m.0 n q.0 q.1 m.1.1)), omega arith)

    overspends_is : (budget n : ℕ) → overspends g budget n ≡ true → Start g n × (budget < dearest g n)
    overspends_is budget n t =
        let p = and_parts (started g n) (ltb budget (dearest g n)) t in (started_is g sound n p.0, ltb-true budget (dearest g n) p.1)

    overspends_yes : (budget n : ℕ) → Start g n → budget < dearest g n → overspends g budget n ≡ true
    overspends_yes budget n start h =
        and_from (started g n) (ltb budget (dearest g n)) (started_yes g sound n start) (lt-ltb budget (dearest g n) h)

    dearest_start : (n : ℕ) → Start g n → Dearest g n (dearest g n)
    dearest_start n start = dearest_is n (start_reached g sound n start)

    charged_means : (budget : ℕ) (o : Option ℕ) → lowest_below (overspends g budget) g.size ≡ o → Means g budget (charged g o)
    charged_means budget None e =
        means_accepted unlooped (dearest g) dearest_start budget
        (λ n start h. lowest_none (overspends g budget) g.size e n (reach_below g sound n (start_reached g sound n start)) (overspends_yes budget n start h))
    charged_means budget (Some n) e =
        let found = lowest_some (overspends g budget) g.size n e in
        let here = overspends_is budget n found.0 in
        means_over unlooped (dearest g) dearest_start budget n here.0 here.1 (λ m h start v. found.1 m h (overspends_yes budget m start v))

  module _ (sound : Sound g) where
    answered_means : (budget : ℕ) (o : Option ℕ) → lowest_below (looped g) g.size ≡ o → Means g budget (answered g o (lowest_below (overspends g budget) g.size))
    answered_means budget None e =
        charged_means sound
        (λ x w. lowest_none (looped g) g.size e x (reach_below g sound x (looped_reached g sound x w).0) (looped_yes g sound x w))
        budget (lowest_below (overspends g budget) g.size) refl
    answered_means budget (Some n) e =
        let found = lowest_some (looped g) g.size n e in
        record { has = looped_is g sound n found.0; least = λ m u w. found.1 m u (looped_yes g sound m w) }

    pub certified_means : (budget : ℕ) → Means g budget (certified g budget)
    certified_means budget = answered_means budget (lowest_below (looped g) g.size) refl

lowest_one : (P : ℕ → Type 0) (m n : ℕ) → Lowest P m → Lowest P n → m ≡ n
lowest_one P m n a b = grind arith

dearest_one : (g : Graph) (n p q : ℕ) → Dearest g n p → Dearest g n q → p ≡ q
dearest_one g n p q a b = grind arith

-- at most one answer says what is so
pub means_one : (g : Graph) (budget : ℕ) (a b : Answer) → Means g budget a → Means g budget b → a ≡ b
means_one g budget accepted accepted x y = refl
means_one g budget accepted (loop n) x y = absurd (x.unlooped n y.has)
means_one g budget accepted (over n p) x y = absurd (x.paid n y.lowest.has)
means_one g budget (loop n) accepted x y = absurd (y.unlooped n x.has)
means_one g budget (loop n) (loop m) x y = ap loop (lowest_one (Looped g) n m x y)
means_one g budget (loop n) (over m p) x y = absurd (y.unlooped n x.has)
means_one g budget (over n p) accepted x y = absurd (y.paid n x.lowest.has)
means_one g budget (over n p) (loop m) x y = absurd (x.unlooped m y.has)
means_one g budget (over n p) (over m q) x y =
    let e = lowest_one (OverBudget g budget) n m x.lowest y.lowest in
    let d = dearest_one g n p q x.dearest (subst⁻¹ (λ (z : ℕ). Dearest g z q) e y.dearest) in
    cc

pub certified_right : CertifiedRight
certified_right g sound budget a =
    (λ e. subst (Means g budget) e (certified_means g sound budget), λ m. means_one g budget (certified g budget) a (certified_means g sound budget) m)

pub walks_complete : WalksComplete
walks_complete g sound unlooped = walk_complete g sound unlooped
