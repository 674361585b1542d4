-- A quotient rounded up is the least number whose product reaches another, and so the least capacity that holds a budget.
use Rattle.std.proofs.Common.{ℕ, ◌-◌, ◌*◌, ◌<◌, ◌≤◌, ◌↔◌, Some, None, Option, is_some, leb, IfSome, ◌≡◌, sym, le-div_iff_mul-le, arith}
use native.Mathlib.Nat.{mul-sub}
use Rattle.std.proofs.lemmas.Bool.{leb-true, leb-false}
use Rattle.std.specs.Int.{div_ceil}
use Rattle.supply.specs.Ratings.{Within, budget_of}
use Rattle.headroom.specs.declared.capacity.Voltages.{Voltages}
use Rattle.headroom.specs.Capacity.{rated, Enough}

-- c is at least the quotient rounded up exactly when c times the divisor reaches n
reaches : (n each c : ℕ) → 0 < each → (div_ceil n each ≤ c) ↔ (n ≤ c * each)
reaches n each c some = grind arith

module _ (v : Voltages) where
  abbrev each : ℕ
  each = v.top * v.top - v.bottom * v.bottom

  -- a capacitor's budget reaches b exactly when its energy does
  holds : (b c : ℕ) → 0 < v.unit → (b ≤ budget_of (rated v c)) ↔ (b * (2 * v.unit) ≤ c * each)
  holds b c h =
      let e = mul-sub c (v.top * v.top) (v.bottom * v.bottom) in
      let q = le-div_iff_mul-le {k = 2 * v.unit} {x = b} {y = c * (v.top * v.top) - c * (v.bottom * v.bottom)} (omega arith) in
      (λ p. let r = q.0 p in omega (arith, e), λ p. q.1 (omega (arith, e)))

  pub enough_by : (b : ℕ) → 1 ≤ b → Within (rated v 1) → (c : ℕ) → c ≡ div_ceil (b * (2 * v.unit)) each
      → (o : Option ℕ) → is_some o ≡ leb c 100000 → IfSome o (λ r. r ≡ c) → Enough v b o
  enough_by b some w c e o told same = go o told same
    where
      apart : 0 < each
      apart = let h = w.apart in grind arith

      from : (d : ℕ) → (c ≤ d) ↔ (b ≤ budget_of (rated v d))
      from d =
          let reached = reaches (b * (2 * v.unit)) each d apart in
          let held = holds b d w.some_unit in
          rw e (λ p. held.1 (reached.0 p), λ p. reached.1 (held.0 p))

      go : (o : Option ℕ) → is_some o ≡ leb c 100000 → IfSome o (λ r. r ≡ c) → Enough v b o
      go (Some r) told same =
          record {
            some = let no : c < 1 → ⊥ = λ h. let k = (from 0).0 (omega arith) in omega arith in omega (arith, no, same);
            most = let h = leb-true c 100000 (sym told) in omega (arith, same);
            from = rw same from;
          }
      go None told same = λ d most. let h = leb-false c 100000 (sym told) in let no : b ≤ budget_of (rated v d) → ⊥ = λ p. let q = (from d).1 p in omega arith in omega (arith, no)
