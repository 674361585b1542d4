-- The whole answer: equal to its definition, and meaning what it says of walks.
use Rattle.std.proofs.Common.{◌≡◌, ℕ, ◌*◌, true, ◌↔◌, List, Ok, Err, Result, sym, refl, ap, ◌∙◌, true≢false}
use mathlib.Core.Path.{subst⁻¹}
use Rattle.isa.specs.declared.refusal.Refusal.{Refusal}
use Rattle.isa.specs.declared.refusal.Refusal.TheVariants.{Loop, OverBudget}
use Rattle.pricing.specs.Model.{Model, Bounded}
use Rattle.paths.specs.Kind.{PathKind, Laws}
use Rattle.paths.specs.Price.{Saturates}
use Rattle.walks.specs.Graph.{Graph, Sound}
use Rattle.walks.specs.Acceptance.{Answer, accepted, loop, over, Means}
use Rattle.walks.specs.Certified.{certified}
use Rattle.walks.specs.ImageGraph.{graph_of}
use Rattle.walks.proofs.Imaging.{lawful_small, lawful_sound}
use Rattle.walks.proofs.TwoKinds.{worths_in}
use Rattle.walks.proofs.Certifying.{certified_right}
use Rattle.certifier.specs.Certify.{result_of, and_then, admission, certification, InOrder, Meaning}
use Rattle.certifier.specs.Judge.{Judged}
use Rattle.certifier.proofs.Admitting.{of_walks, admitted, not_of_walks}
use Rattle.certifier.proofs.Judging.{judged_means}

result_one : (a b : Answer) → result_of a ≡ result_of b → a ≡ b
result_one accepted accepted e = refl
result_one accepted (loop s) e = cc
result_one accepted (over s p) e = cc
result_one (loop s) accepted e = cc
result_one (loop s) (loop t) e = cc
result_one (loop s) (over t p) e = cc
result_one (over s p) accepted e = cc
result_one (over s p) (loop t) e = cc
result_one (over s p) (over t q) e = cc

answer_of_walks : (a : Answer) (r : Refusal) → Err r ≡ result_of a → of_walks r ≡ true
answer_of_walks accepted r e = cc
answer_of_walks (loop s) r e = let same : r ≡ Loop s = cc in ap of_walks same
answer_of_walks (over s p) r e = let same : r ≡ OverBudget s p = cc in ap of_walks same

module _ (m : Model) (image : List ℕ) (budget room : ℕ) where
  abbrev g : Graph
  g = graph_of m image

  abbrev then : Result (Unit {0}) Refusal → Result (Unit {0}) Refusal
  then l = and_then l (result_of (certified g budget))

  pub at_refusal : (r : Refusal) → admission image budget room ≡ Err r → Err r ≡ certification m image budget room
  at_refusal r e = sym (ap then e)

  module _ (order : InOrder image budget room) where
    sound : Sound g
    sound = lawful_sound m image order.lawful

    at_walks : (a : Answer) → Means g budget a → result_of a ≡ certification m image budget room
    at_walks a means = sym (ap then ((admitted image budget room).1 order) ∙ ap result_of ((certified_right g sound budget a).1 means))

    -- a judgement by any kind of path value with prices is the answer
    module _ (bounded : Bounded m) {V : Type 0} (k : PathKind V) (laws : Laws k) (price : V → ℕ) (saturates : Saturates k price) where
      pub at_worths : (old new : List V) (r : Result (Unit {0}) Refusal) → Judged k price g budget old new r → r ≡ certification m image budget room
      at_worths old new r judged =
          let q = judged_means k price g sound (2 * 65535) (lawful_small m bounded image order.lawful) (worths_in k laws price saturates g sound) budget old new r judged in
          q.2 ∙ at_walks q.0 q.1

  -- the answers about walks are given exactly when all is in order and they say what is so
  meant : (a : Answer) → (certification m image budget room ≡ result_of a) ↔ (InOrder image budget room × Means g budget a)
  meant a = (go (admission image budget room) refl, λ (q : InOrder image budget room × Means g budget a). sym (at_walks q.0 a q.1))
    where
      go : (l : Result (Unit {0}) Refusal) → admission image budget room ≡ l → then l ≡ result_of a → InOrder image budget room × Means g budget a
      go (Ok tt) p e =
          let order = (admitted image budget room).0 p in
          (order, (certified_right g (sound order) budget a).0 (result_one (certified g budget) a e))
      go (Err r) p e = absurd (true≢false (sym (answer_of_walks a r e) ∙ not_of_walks image budget room r p))

  pub meaning : (r : Result (Unit {0}) Refusal) → r ≡ certification m image budget room → Meaning m image budget room r
  meaning r e =
      subst⁻¹ (Meaning m image budget room) e
      (record { accepted = meant accepted; looping = λ s. meant (loop s); dear = λ s p. meant (over s p) })
