-- What the worths in a list say of starts over budget, and what a judgement says of walks.
use Rattle.std.proofs.Common.{◌≡◌, ℕ, ◌<◌, ◌≤◌, Bool, true, false, cond, ◌&&◌, ltb, List, get_or, Some, None, Err, Option, Result, sym, refl, ap, ◌∙◌, subst, arith}
use mathlib.Core.Path.{subst⁻¹}
use Rattle.std.proofs.lemmas.Bool.{and_parts, and_from, ltb-true, lt-ltb}
use Rattle.isa.specs.declared.refusal.Refusal.{Refusal}
use Rattle.isa.specs.declared.refusal.Refusal.TheVariants.{OverBudget}
use Rattle.isa.specs.First.{first_below}
use Rattle.isa.specs.Refusal.{ok_unless}
use Rattle.isa.proofs.First.{none_each, first_of}
use Rattle.paths.specs.Kind.{PathKind}
use Rattle.walks.specs.Graph.{Graph, Sound, Small}
use Rattle.walks.specs.Walk.{Start}
use Rattle.walks.specs.Acceptance.{Unlooped, OverBudget as OverFrom, Dearest, Answer, accepted, loop, over, Means}
use Rattle.walks.specs.Worth.{worth_of, WorthsIn}
use Rattle.walks.proofs.Walking.{reach_below, start_reached}
use Rattle.search.specs.Reach.{Tells}
use Rattle.certifier.specs.Certify.{result_of}
use Rattle.certifier.specs.Judge.{WorthsLeft, over_at, DearStart, Judged, looping, dear, paid}

over_none : (b : Bool) (r : Refusal) → cond b (Some r) None ≡ None → b ≡ true → ⊥
over_none b r e t = grind arith

over_some : (b : Bool) (r s : Refusal) → cond b (Some r) None ≡ Some s → (b ≡ true) × (r ≡ s)
over_some b r s e = grind arith

module _ {V : Type 0} (k : PathKind V) (price : V → ℕ) (g : Graph) (sound : Sound g) (small : g.size ≤ 1024) (budget : ℕ)
    (starts : List Bool) (told : Tells starts (Start g)) (old new : List V) (left : WorthsLeft k g old new) where
  abbrev at : ℕ → Option Refusal
  at = over_at price k.empty new starts budget

  abbrev amount : ℕ → ℕ
  amount n = price (get_or new n k.empty)

  inside : (n : ℕ) → Start g n → n < g.size
  inside n s = reach_below g sound n (start_reached g sound n s)

  amount_is : (n : ℕ) → n < g.size → amount n ≡ price (worth_of k g n)
  amount_is n h = ap price (left.within n h)

  dear_told : (n : ℕ) → DearStart k price g budget n → (get_or starts n false && ltb budget (amount n)) ≡ true
  dear_told n d =
      let h = inside n d.0 in
      let e = amount_is n h in
      let p = d.1 in
      and_from (get_or starts n false) (ltb budget (amount n)) ((told n (omega arith)).1 d.0) (lt-ltb budget (amount n) (omega arith))

  told_dear : (n : ℕ) → n < 1024 → (get_or starts n false && ltb budget (amount n)) ≡ true → DearStart k price g budget n
  told_dear n h e =
      let p = and_parts (get_or starts n false) (ltb budget (amount n)) e in
      let s = (told n h).0 p.0 in
      let q = amount_is n (inside n s) in
      let z = ltb-true budget (amount n) p.1 in
      (s, omega arith)

  no_dear : (n : ℕ) → at n ≡ None → DearStart k price g budget n → ⊥
  no_dear n e d = over_none (get_or starts n false && ltb budget (amount n)) (OverBudget n (amount n)) e (dear_told n d)

  judged_over : Unlooped g → (o : Option Refusal) → first_below at 1024 ≡ o → Judged k price g budget old new (ok_unless o tt)
  judged_over unlooped None e =
      paid unlooped left (λ n d. let h = inside n d.0 in no_dear n (none_each at 1024 e n (omega arith)) d)
  judged_over unlooped (Some r) e =
      let f = first_of at 1024 r e in
      let n = f.at in
      let p = over_some (get_or starts n false && ltb budget (amount n)) (OverBudget n (amount n)) r f.given in
      let d = told_dear n f.below p.0 in
      let same : OverBudget n (price (worth_of k g n)) ≡ r = sym (ap (OverBudget n) (amount_is n (inside n d.0))) ∙ p.1 in
      subst (λ (x : Refusal). Judged k price g budget old new (Err x)) same
      (dear unlooped left (record { has = d; least = λ m h. no_dear m (f.before m h) }))

  pub judged_charge : Unlooped g → (r : Result (Unit {0}) Refusal) → r ≡ ok_unless (first_below at 1024) tt → Judged k price g budget old new r
  judged_charge unlooped r e =
      subst⁻¹ (λ (x : Result (Unit {0}) Refusal). Judged k price g budget old new x) e (judged_over unlooped (first_below at 1024) refl)

-- where the worth of a start has the price of its dearest complete list, a judgement is the answer about the graph
module _ {V : Type 0} (k : PathKind V) (price : V → ℕ) (g : Graph) (sound : Sound g) (c : ℕ) (small : Small g c)
    (worths : Unlooped g → WorthsIn k price g (worth_of k g)) (budget : ℕ) where
  start_dearest : Unlooped g → (n : ℕ) → Start g n → Dearest g n (price (worth_of k g n))
  start_dearest unlooped n s = (worths unlooped).dearest c small n (start_reached g sound n s)

  over_dear : Unlooped g → (n : ℕ) → OverFrom g budget n → DearStart k price g budget n
  over_dear unlooped n (l, w, more) =
      let most = (start_dearest unlooped n w.0).most l w.1 in (w.0, omega (arith, more, most))

  dear_over : Unlooped g → (n : ℕ) → DearStart k price g budget n → OverFrom g budget n
  dear_over unlooped n (s, more) =
      let met = (start_dearest unlooped n s).met in
      let e = met.2 in
      (met.0, (s, met.1), omega (arith, more, e))

  pub judged_means : (old new : List V) (r : Result (Unit {0}) Refusal) → Judged k price g budget old new r
      → (a : Answer) × Means g budget a × (r ≡ result_of a)
  judged_means old new r (looping {s} lowest kept) = (loop s, lowest, refl)
  judged_means old new r (paid unlooped left none) =
      (accepted, record { unlooped = unlooped; paid = λ n o. none n (over_dear unlooped n o) }, refl)
  judged_means old new r (dear {s} unlooped left lowest) = (
    over s (price (worth_of k g s)),
    record {
      unlooped = unlooped;
      lowest = record { has = dear_over unlooped s lowest.has; least = λ n h o. lowest.least n h (over_dear unlooped n o) };
      dearest = start_dearest unlooped s lowest.has.0;
    },
    refl,
  )
