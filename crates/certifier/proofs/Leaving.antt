-- What an answer leaves in a list of values.
use Rattle.std.proofs.Common.{◌≡◌, ℕ, false, List, Err, Result, sym, refl, ap, ◌∙◌, true≢false}
use Rattle.isa.specs.declared.refusal.Refusal.{Refusal}
use Rattle.isa.specs.declared.refusal.Refusal.TheVariants.{OverBudget}
use Rattle.paths.specs.Kind.{PathKind}
use Rattle.walks.specs.Graph.{Graph}
use Rattle.walks.specs.Worth.{worth_of}
use Rattle.certifier.specs.Certify.{LeftBy}
use Rattle.certifier.specs.Judge.{Judged, looping, dear, paid}
use Rattle.certifier.proofs.Admitting.{of_walks}

module _ {V : Type 0} (k : PathKind V) (g : Graph) (old : List V) where
  -- a refusal before the walks leaves it as it was
  pub left_refused : (r : Refusal) → of_walks r ≡ false → LeftBy k g old old (Err r)
  left_refused r f =
      record {
        accepted = λ e. cc;
        dear = λ s p e. let same : r ≡ OverBudget s p = cc in absurd (true≢false (sym (ap of_walks same) ∙ f));
        others = λ b e other. refl;
      }

  pub left_judged : (price : V → ℕ) (budget : ℕ) (new : List V) (r : Result (Unit {0}) Refusal) → Judged k price g budget old new r → LeftBy k g old new r
  left_judged price budget new r (looping lowest kept) = record { accepted = λ e. cc; dear = λ s p e. cc; others = λ b e other. kept }
  left_judged price budget new r (paid unlooped left none) = record { accepted = λ e. left; dear = λ s p e. cc; others = λ b e other. cc }
  left_judged price budget new r (dear {s} unlooped left lowest) =
      record {
        accepted = λ e. cc;
        dear = λ t p e. left;
        others = λ b e other. let same : b ≡ OverBudget s (price (worth_of k g s)) = cc in absurd (other s (price (worth_of k g s)) same);
      }
