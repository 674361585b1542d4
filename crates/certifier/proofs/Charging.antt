-- The first start over budget, found start by start.
use Rattle.std.proofs.Common.{◌≡◌, ℕ, zero, suc, ◌+◌, ◌-◌, ◌<◌, ◌≤◌, Bool, false, List, length, get_or, Some, None, Ok, Err, Option, Result, sym, ap, ◌∙◌, subst, arith}
use lib.ListN.{get_or-eq_default}
use Rattle.isa.specs.declared.refusal.Refusal.{Refusal}
use Rattle.isa.specs.First.{first_below}
use Rattle.isa.specs.Refusal.{ok_unless}
use Rattle.isa.proofs.First.{none_more, some_below}
use Rattle.certifier.specs.Judge.{over_by, over_at}

abbrev answer : Option Refusal → Result (Unit {0}) Refusal
answer o = ok_unless o tt

module _ {V : Type 0} (price : V → ℕ) (d : V) (worths : List V) (starts : List Bool) (budget : ℕ) where
  abbrev at : ℕ → Option Refusal
  at = over_at price d worths starts budget

  -- what a turn of the loop finds at slot i
  module _ (i p : ℕ) (priced : p ≡ price (get_or worths i d)) (before : first_below at i ≡ None) where
    abbrev found : Option Refusal
    found = over_by (get_or starts i false) p budget i

    here : at i ≡ found
    here = ap (λ (q : ℕ). over_by (get_or starts i false) q budget i) (sym priced)

    pub charge_over : (r : Refusal) → found ≡ Some r → i < 1024 → Err r ≡ answer (first_below at 1024)
    charge_over r e h = sym (ap answer (some_below at 1024 i r h before (here ∙ e)))

    pub charge_more : found ≡ None → first_below at (i + 1) ≡ None
    charge_more e = none_more at i before (here ∙ e)

  -- past their end there are no starts
  no_more : (k i : ℕ) → length starts ≤ i → first_below at i ≡ None → first_below at (i + k) ≡ None
  no_more zero i end before = let same : i ≡ i + zero = omega arith in subst (λ (n : ℕ). first_below at n ≡ None) same before
  no_more (suc k) i end before =
      let none : get_or starts i false ≡ false = get_or-eq_default starts false end in
      let here : at i ≡ None = ap (λ (b : Bool). over_by b (price (get_or worths i d)) budget i) none in
      let same : i + 1 + k ≡ i + suc k = omega arith in
      subst (λ (n : ℕ). first_below at n ≡ None) same (no_more k (i + 1) (omega arith) (none_more at i before here))

  pub charge_done : (i : ℕ) → length starts ≤ i → i ≤ 1024 → first_below at i ≡ None → Ok tt ≡ answer (first_below at 1024)
  charge_done i end few before =
      let whole : i + (1024 - i) ≡ 1024 = omega arith in
      sym (ap answer (subst (λ (n : ℕ). first_below at n ≡ None) whole (no_more (1024 - i) i end before)))
