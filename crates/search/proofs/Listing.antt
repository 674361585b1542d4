-- A list of nodes with one more at its end.
use Rattle.std.proofs.Common.{◌≡◌, ℕ, ◌≤◌, ◌⊎◌, List, [], ◌∷◌, ◌++◌, length, ⊎_elim, arith}
use Rattle.std.proofs.lemmas.Grind.{common_steps}
use Rattle.paths.specs.Net.{Listed}

module _ (ns : List ℕ) (n : ℕ) where
  pub still_listed : (p q t : ℕ) → p ≤ length ns → p ≤ q → Listed ns p t → Listed (ns ++ n ∷ []) q t
  still_listed p q t h le l = grind (arith, common_steps)

  pub all_listed : (t : ℕ) → (t ≡ n) ⊎ Listed ns (length ns) t → Listed (ns ++ n ∷ []) (length (ns ++ n ∷ [])) t
  all_listed t = ⊎_elim
      (λ is. (length ns, grind (arith, common_steps), grind (arith, common_steps)))
      (λ l. still_listed (length ns) (length (ns ++ n ∷ [])) t (omega arith) (grind (arith, common_steps)) l)
