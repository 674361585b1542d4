-- What is accepted at a budget is accepted at a larger one, and a refusal over budget tells a price below which nothing is.
use Rattle.std.proofs.Common.{◌≡◌, ℕ, ◌<◌, ◌≤◌, List, ◌∷◌, Some, None, Ok, Err, Option, Result, MatchOption, IsSomeAnd, sym, refl, ap, lt_of_lt_of_le, lt_of_le_of_lt, arith}
use mathlib.Core.Path.{subst⁻¹}
use Rattle.std.specs.Result.{result_err}
use Rattle.isa.specs.declared.refusal.Refusal.{Refusal}
use Rattle.isa.specs.declared.refusal.Refusal.TheVariants.{OverBudget}
use Rattle.isa.specs.Refusal.{told_of}
use Rattle.pricing.specs.Model.{Model}
use Rattle.walks.specs.Graph.{Graph}
use Rattle.walks.specs.Walk.{walk_price}
use Rattle.walks.specs.Acceptance.{Accepted, TooDear, Answer, accepted, loop, over}
use Rattle.walks.specs.Certified.{certified}
use Rattle.walks.specs.ImageGraph.{graph_of}
use Rattle.certifier.specs.Certify.{result_of, and_then, certification, InOrder, Meaning}
use Rattle.certifier.proofs.Admitting.{admitted}
use Rattle.certifier.proofs.Certifying.{meaning}
use Rattle.headroom.specs.Budget.{most_budget, AcceptedAt, NoBudget, Dearer}

module _ (m : Model) (image : List ℕ) where
  abbrev g : Graph
  g = graph_of m image

  means : (b room : ℕ) → Meaning m image b room (certification m image b room)
  means b room = meaning m image b room (certification m image b room) refl

  order_at : (b c room : ℕ) → InOrder image b room → 1 ≤ c → c ≤ most_budget → InOrder image c room
  order_at b c room o some most = record { some = some; most = most; roomy = o.roomy; lawful = o.lawful }

  pays_more : (b c : ℕ) → b ≤ c → Accepted g b → Accepted g c
  pays_more b c h a = record { unlooped = a.unlooped; paid = λ n o. a.paid n (o.0, o.1, lt_of_le_of_lt h o.2) }

  pub accepted_more : (b c room : ℕ) → AcceptedAt m image room b → b ≤ c → c ≤ most_budget → AcceptedAt m image room c
  accepted_more b c room e h k =
      let q = (means b room).accepted.0 e in
      let some : 1 ≤ b = q.0.some in
      (means c room).accepted.1 (order_at b c room q.0 (omega arith) k, pays_more b c h q.1)

  pub never : (room : ℕ) (r : Refusal) → certification m image most_budget room ≡ Err r → NoBudget m image room r
  never room r e =
      record {
        answer = e;
        refused =
            λ c a.
            let most : c ≤ most_budget = ((means c room).accepted.0 a).0.most in
            let top = accepted_more c most_budget room a most (omega arith) in
            cc;
      }

  module _ (b : ℕ) (enough : AcceptedAt m image 1024 most_budget) where
    top : InOrder image most_budget 1024 × Accepted g most_budget
    top = (means most_budget 1024).accepted.0 enough

    from_dear : (s p : ℕ) → TooDear g b s p → Dearer m image 1024 b p
    from_dear s p d =
        let o = d.lowest.has in
        let met = d.dearest.met in
        let start = o.1.0 in
        let over : (c : ℕ) → c < p → c < walk_price g (s ∷ met.0) = λ c h. subst⁻¹ (λ (x : ℕ). c < x) met.2 h in
        let dear : most_budget < p → ⊥ = λ h. top.1.paid s (met.0, (start, met.1), over most_budget h) in
        record {
          above = lt_of_lt_of_le o.2 (d.dearest.most o.0 o.1.1);
          most = omega (arith, dear);
          refused = λ c h e. ((means c 1024).accepted.0 e).1.paid s (met.0, (start, met.1), over c h);
        }

    module _ (some : 1 ≤ b) (most : b ≤ most_budget) where
      of_walks_lem : certification m image b 1024 ≡ result_of (certified g b)
      of_walks_lem = ap (λ (x : Result (Unit {0}) Refusal). and_then x (result_of (certified g b))) ((admitted image b 1024).1 (order_at most_budget b 1024 top.0 some most))

      -- with enough charge at the largest budget, a refusal is over budget
      dearer : (r : Refusal) → Err r ≡ certification m image b 1024 → Dearer m image 1024 b (told_of r).price
      dearer r e = go (certified g b) of_walks_lem
        where
          go : (a : Answer) → certification m image b 1024 ≡ result_of a → Dearer m image 1024 b (told_of r).price
          go accepted p = cc
          go (loop s) p = absurd (top.1.unlooped s (((means b 1024).looping s).0 p).1.has)
          go (over s q) p =
              let same : r ≡ OverBudget s q = cc in
              subst⁻¹ (λ (x : Refusal). Dearer m image 1024 b (told_of x).price) same (from_dear s q (((means b 1024).dear s q).0 p).1)

      -- what is over budget by an answer, as its refusal tells
      pub beyond_by : (r : Result (Unit {0}) Refusal) → r ≡ certification m image b 1024 → (o : Option ℕ)
          → MatchOption (result_err r) (o ≡ None) (λ x. IsSomeAnd o (λ p. p ≡ (told_of x).price))
          → MatchOption o (AcceptedAt m image 1024 b) (Dearer m image 1024 b)
      beyond_by (Ok u) e o told = rw told (sym e)
      beyond_by (Err x) e (Some p) told = rw told (dearer x e)
      beyond_by (Err x) e None told = absurd told
