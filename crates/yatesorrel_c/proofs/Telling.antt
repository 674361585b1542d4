-- Plain numbers tell one supply and one rig.
use Rattle.std.proofs.Common.{◌≡◌, ℕ, ◌≤◌, ◌∙◌, sym, ap, ap₂, subst, arith}
use Rattle.std.specs.Coded.{le_prop}
use Rattle.machine.specs.declared.state.State.{State}
use Rattle.claims.specs.Rig.{Rig}
use Rattle.rig.specs.declared.standing.Standing.{Standing}
use Rattle.rig.specs.Seen.{rig_on}
use Rattle.supply.specs.declared.capacitor.Capacitor.{Capacitor}
use Rattle.supply.specs.declared.mains.Mains.{Mains}
use Rattle.supply.specs.declared.ratings.Ratings.{Ratings as Held}
use Rattle.supply.specs.Rated.{rated}
use Rattle.supply.specs.Ratings.{Ratings, Within, floor_of, full_of}
use Rattle.yatesorrel_c.specs.declared.held.PlainRig.{PlainRig}
use Rattle.supply.specs.declared.source.Source.{Source}
use Rattle.supply.specs.declared.source.Source.TheVariants as source
use Rattle.yatesorrel_c.specs.declared.supplies.PlainSupply.{PlainSupply}
use Rattle.yatesorrel_c.specs.Supplies.{plain_capacitor, plain_supply, plain_mains}
use Rattle.yatesorrel_c.specs.Held.{plain_rig, Whole, Unbegun}

pub neither : (p : PlainSupply) → ((x : Capacitor) → p ≡ plain_capacitor x → ⊥) → ((x : Mains) → p ≡ plain_mains x → ⊥)
    → (s : Source) → p ≡ plain_supply s → ⊥
neither p c m (source.Capacitor x) e = c x e
neither p c m (source.Mains x) e = m x e

-- facts about ratings have one proof, so their numbers tell them
within_prop : (n : Ratings) → IsProp (Within n)
within_prop n v w =
    λ i. record {
      some_capacity = le_prop v.some_capacity w.some_capacity i;
      most_capacity = le_prop v.most_capacity w.most_capacity i;
      apart = le_prop v.apart w.apart i;
      most_voltage = le_prop v.most_voltage w.most_voltage i;
      some_unit = le_prop v.some_unit w.some_unit i;
      most_unit = le_prop v.most_unit w.most_unit i;
    }

abbrev held : (n : Ratings) → Within n → Held
held n w = record { microfarads = n.microfarads; top = n.top; bottom = n.bottom; unit = n.unit; within = w }

one_rating : (n m : Ratings) → n ≡ m → (v : Within n) (w : Within m) → held n v ≡ held m w
one_rating n m e =
    subst (λ (k : Ratings). (v : Within n) (w : Within k) → held n v ≡ held k w) e (λ v w. ap (λ u. held n u) (within_prop n v w))

abbrev charged : (k : Held × ℕ × ℕ × ℕ) → floor_of (rated k.0) ≤ k.1 → k.1 ≤ full_of (rated k.0) → Capacitor
charged k a b = record { ratings = k.0; energy = k.1; asked = k.2; charges = k.3; above = a; below = b }

one_charged : (j k : Held × ℕ × ℕ × ℕ) → j ≡ k
    → (a : floor_of (rated j.0) ≤ j.1) (b : j.1 ≤ full_of (rated j.0)) (c : floor_of (rated k.0) ≤ k.1) (d : k.1 ≤ full_of (rated k.0))
    → charged j a b ≡ charged k c d
one_charged j k e a b =
    subst (λ (k : Held × ℕ × ℕ × ℕ). (c : floor_of (rated k.0) ≤ k.1) (d : k.1 ≤ full_of (rated k.0)) → charged j a b ≡ charged k c d) e
    (λ c d. ap₂ (λ u l. charged j u l) (le_prop a c) (le_prop b d))

pub one_capacitor : (x y : Capacitor) → plain_capacitor x ≡ plain_capacitor y → x ≡ y
one_capacitor x y e =
    let numbers : rated x.ratings ≡ rated y.ratings = grind arith in
    let ratings : x.ratings ≡ y.ratings = one_rating _ _ numbers x.ratings.within y.ratings.within in
    let energies : x.energy ≡ y.energy = ap (λ (p : PlainSupply). p.energy) e in
    let asks : x.asked ≡ y.asked = ap (λ (p : PlainSupply). p.asked) e in
    let charges : x.charges ≡ y.charges = ap (λ (p : PlainSupply). p.charges) e in
    one_charged (x.ratings, x.energy, x.asked, x.charges) (y.ratings, y.energy, y.asked, y.charges)
    (λ i. (ratings i, energies i, asks i, charges i)) x.above x.below y.above y.below

pub one_mains : (x y : Mains) → plain_mains x ≡ plain_mains y → x ≡ y
one_mains x y e = grind arith

pub one_source : (x y : Source) → plain_supply x ≡ plain_supply y → x ≡ y
one_source (source.Capacitor x) (source.Capacitor y) e = ap (λ z. source.Capacitor z) (one_capacitor x y e)
one_source (source.Capacitor x) (source.Mains y) e = absurd (differ e) where
  differ : plain_capacitor x ≡ plain_mains y → ⊥
  differ e = grind arith
one_source (source.Mains x) (source.Capacitor y) e = absurd (differ e) where
  differ : plain_mains x ≡ plain_capacitor y → ⊥
  differ e = grind arith
one_source (source.Mains x) (source.Mains y) e = ap (λ z. source.Mains z) (one_mains x y e)

pub one_rig : (r s : Rig Source State) → plain_rig r ≡ plain_rig s → r ≡ s
one_rig r s e =
    let supplies : r.supply ≡ s.supply = one_source _ _ (ap (λ (p : PlainRig). p.supply) e) in
    let states : r.state ≡ s.state = ap (λ (p : PlainRig). p.standing.state) e in
    let kept : r.kept ≡ s.kept = ap (λ (p : PlainRig). p.standing.kept) e in
    let before : r.before ≡ s.before = ap (λ (p : PlainRig). p.standing.before) e in
    let saves : r.saves ≡ s.saves = ap (λ (p : PlainRig). p.standing.saves) e in
    let cuts : r.cuts ≡ s.cuts = ap (λ (p : PlainRig). p.standing.cuts) e in
    let attempts : r.attempts ≡ s.attempts = ap (λ (p : PlainRig). p.standing.attempts) e in
    λ i. record {
      supply = supplies i;
      state = states i;
      kept = kept i;
      before = before i;
      saves = saves i;
      cuts = cuts i;
      attempts = attempts i;
    }

-- so what holds of a rig that they are of holds of any such rig
pub of_rig : (P : Rig Source State → Type 0) (p : PlainRig) (q : Rig Source State) → p ≡ plain_rig q → P q
    → (r : Rig Source State) → p ≡ plain_rig r → P r
of_rig P p q e x r f = subst P (one_rig _ _ (sym e ∙ f)) x

-- and numbers that are those of a rig are not those of none
pub begun : {A : Type 0} (p : PlainRig) (s : Source) → Whole (rig_on s p.standing) × (p ≡ plain_rig (rig_on s p.standing)) → Unbegun p → A
begun p s e none = absurd (none _ e.0 e.1)

-- a rig whose supply is written back has the plain numbers of the rig that stands there
abbrev pub lying : PlainSupply → Standing → PlainRig
lying p t = record { supply = p; standing = t }

pub written : (p : PlainSupply) (s : Source) (t : Standing) → p ≡ plain_supply s → lying p t ≡ plain_rig (rig_on s t)
written p s t e = ap (λ (q : PlainSupply). lying q t) e
