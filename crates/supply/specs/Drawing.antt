-- A draw from a capacitor keeps what a supply means.
use Rattle.std.specs.Prelude.{◌≡◌, ℕ, ◌+◌, ◌*◌, ◌<◌, ◌≤◌, true, refl}
use Rattle.std.proofs.Common.{sym, ap, subst, ◌∙◌, le_of_eq, arith}
use Rattle.std.proofs.lemmas.Bool.{cond-true, le-leb}
use Rattle.supply.specs.declared.answer.Answer.{Answer}
use Rattle.supply.specs.declared.capacitor.Capacitor.{Capacitor}
use Rattle.supply.specs.Ratings.{floor_of, units_in}
use Rattle.supply.specs.Supply.{Drawn}
use Rattle.supply.specs.Capacitor.{Condition, condition_of, suffices, answer_to, drawn, four_in, Drew}
use Rattle.supply.specs.Units.{there, fewer}

drawn_well : (k : Condition) (n : ℕ) → 1 ≤ k.ratings.unit → floor_of k.ratings ≤ k.energy
    → Drawn (four_in k) n (answer_to k n) (four_in (drawn k n))
drawn_well k n p l =
    let unit : ℕ = 2 * k.ratings.unit in
    let some : 0 < unit = omega arith in
    let enough : n ≤ (four_in k).assured → floor_of k.ratings + n * unit ≤ k.energy =
    λ h. there n unit k.energy (floor_of k.ratings) some l h in
    let suffice : n ≤ (four_in k).assured → suffices k n ≡ true = λ h. le-leb _ _ (enough h) in
    record {
      budget_same = refl;
      assured_yes = λ h. cond-true _ _ _ (suffice h);
      assured_falls = λ h.
          le_of_eq (fewer n unit k.energy (floor_of k.ratings) some (enough h)
          ∙ ap (λ e. units_in k.ratings e + n) (sym (cond-true _ _ _ (suffice h))));
      asked_rises = refl;
      charges_same = refl;
    }

pub keeps_meaning : (x y : Capacitor) (n : ℕ) (a : Answer) → Drew x n a y → Drawn (four_in (condition_of x)) n a (four_in (condition_of y))
keeps_meaning x y n a d =
    let k : Condition = condition_of x in
    let said : Drawn (four_in k) n a (four_in (drawn k n)) =
    subst (λ (b : Answer). Drawn (four_in k) n b (four_in (drawn k n))) (sym d.answers) (drawn_well k n x.ratings.within.some_unit x.above) in
    subst (λ (m : Condition). Drawn (four_in k) n a (four_in m)) (sym d.leaves) said
