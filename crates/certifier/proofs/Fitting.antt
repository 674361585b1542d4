-- The tables of a lawful image are tables of its graph, and what a search and a judgement over tables of a graph say of acceptance.
use Rattle.std.proofs.Common.{◌≡◌, ℕ, ◌*◌, ◌<◌, ◌≤◌, ◌↔◌, Bool, true, false, List, length, take, get_or, is_ok, Result, sym, refl, ap, ◌∙◌, ⊎_elim, true≢false, arith}
use mathlib.Core.Path.{subst⁻¹}
use Rattle.std.proofs.lemmas.Grind.{common_steps}
use Rattle.std.proofs.lemmas.Bool.{cases_Bool, cases_lt}
use Rattle.isa.specs.Lawful.{Lawful}
use Rattle.isa.specs.Slot.{slot_count}
use Rattle.isa.specs.declared.refusal.Refusal.{Refusal}
use Rattle.pricing.specs.Model.{Model, Bounded}
use Rattle.paths.specs.declared.node.Node.{Node}
use Rattle.paths.specs.declared.price.Price.{Price}
use Rattle.paths.specs.Net.{tabled}
use Rattle.paths.specs.Price.{price_kind, Saturates}
use Rattle.paths.proofs.KindLaws.{price_laws}
use Rattle.walks.specs.Graph.{Graph}
use Rattle.walks.specs.Walk.{Start}
use Rattle.walks.specs.Acceptance.{Answer, accepted}
use Rattle.walks.specs.Certified.{certified}
use Rattle.walks.specs.ImageGraph.{graph_of}
use Rattle.walks.specs.Placing.{is_accepted}
use Rattle.walks.proofs.Certifying.{certified_right}
use Rattle.walks.proofs.Imaging.{lawful_small, lawful_sound}
use Rattle.walks.proofs.TwoKinds.{worths_in}
use Rattle.search.specs.Reach.{Looped}
use Rattle.tables.specs.Chart.{ChartOf}
use Rattle.tables.proofs.Describing.{slots_small}
use Rattle.walks.proofs.Walking.{reach_below, start_reached}
use Rattle.certifier.specs.Priced.{price_of_price}
use Rattle.certifier.specs.Certify.{result_of}
use Rattle.certifier.specs.Judge.{Judged}
use Rattle.certifier.specs.Fits.{TableOf}
use Rattle.certifier.proofs.Judging.{judged_means}
use Rattle.certifier.proofs.Searching.{looped_on}

-- the starts past a graph's nodes may be left out
pub shortened : (g : Graph) (nodes : List Node) (starts : List Bool) (n : ℕ) → g.size ≤ n → TableOf g nodes starts → TableOf g nodes (take n starts)
shortened g nodes starts n inside t = record {
  sound = t.sound;
  most = t.most;
  small = t.small;
  size = t.size;
  described = t.described;
  beyond = t.beyond;
  told = λ k h. ⊎_elim
      (λ (lt : k < n).
      let e : get_or (take n starts) k false ≡ get_or starts k false = grind (arith, common_steps) in
      subst⁻¹ (λ (b : Bool). (b ≡ true) ↔ Start g k) e (t.told k h))
      (λ (le : n ≤ k). (
        λ e. absurd (let f : get_or (take n starts) k false ≡ false = grind (arith, common_steps) in true≢false (sym e ∙ f)),
        λ s. let b = reach_below g t.sound k (start_reached g t.sound k s) in absurd (omega arith),
      ))
      (cases_lt k n);
}

pub table_of_image : (m : Model) → Bounded m → (image : List ℕ) → Lawful image → (nodes : List Node) (starts : List Bool)
    → ChartOf (graph_of m image) nodes starts → TableOf (graph_of m image) nodes (take (slot_count image) starts)
table_of_image m bounded image lawful nodes starts chart =
    let within : slot_count image ≤ slot_count image = omega arith in
    shortened (graph_of m image) nodes starts (slot_count image) within
    (record {
      sound = lawful_sound m image lawful;
      most = 2 * 65535;
      small = lawful_small m bounded image lawful;
      size = slots_small image lawful;
      described = chart.described;
      beyond = chart.beyond;
      told = chart.told;
    })

pub no_price : (x : Price) → x.price ≡ 0 → x ≡ price_kind.empty
no_price x e = λ j. record { price = e j }

ok_result : (a : Answer) → is_ok (result_of a) ≡ is_accepted a
ok_result a = grind arith

accepted_only : (a : Answer) → is_accepted a ≡ true → a ≡ accepted
accepted_only a t = grind arith

module _ (g : Graph) (nodes : List Node) (starts : List Bool) (t : TableOf g nodes starts) (budget : ℕ) where
  pub fits_judged : (old new : List Price) (r : Result (Unit {0}) Refusal) → Judged price_kind price_of_price g budget old new r
      → is_ok r ≡ is_accepted (certified g budget)
  fits_judged old new r judged =
      let saturates : Saturates price_kind price_of_price = record { at_empty = refl; at_join = λ x y. refl; at_extend = λ x s p. refl } in
      let q = judged_means price_kind price_of_price g t.sound t.most t.small (worths_in price_kind price_laws price_of_price saturates g t.sound) budget old new r judged in
      ap is_ok q.2 ∙ ok_result q.0 ∙ sym (ap is_accepted ((certified_right g t.sound budget q.0).1 q.1))

  pub never_looping : (n : ℕ) → length starts ≤ 1024 → Looped (tabled nodes) starts n → false ≡ is_accepted (certified g budget)
  never_looping n length-starts looped =
      ⊎_elim
      (λ (e : is_accepted (certified g budget) ≡ true).
      let a = (certified_right g t.sound budget accepted).0 (accepted_only (certified g budget) e) in
      absurd (a.unlooped n (looped_on g t.sound t.size nodes t.described t.beyond starts length-starts t.told n looped)))
      (λ (e : is_accepted (certified g budget) ≡ false). sym e)
      (cases_Bool (is_accepted (certified g budget)))
