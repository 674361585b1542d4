-- How many elements of a list pass a test.
use Rattle.std.proofs.Common.{◌≡◌, ℕ, suc, refl, ◌<◌, Bool, true, false, List, [], ◌∷◌, length, get_or, set, count_by, arith, length-set}
use Rattle.std.proofs.lemmas.Grind.{common_steps}
use Rattle.std.proofs.lemmas.List.Sums.{sum_by-cons, count_by-le-length}

module _ {X : Type 0} (test : X → Bool) (d : X) where
  pub count_none : (xs : List X) → ((k : ℕ) → test (get_or xs k d) ≡ true → ⊥) → count_by test xs ≡ 0
  count_none [] h = refl
  count_none (x ∷ xs) h = let rest = count_none xs (λ k. h (suc k)) in grind (arith, common_steps, sum_by-cons, h 0)

  -- while one fails the test, the count is below the length
  pub count_room : (xs : List X) (i : ℕ) (y : X) → i < length xs → test (get_or xs i d) ≡ false → test y ≡ true → count_by test xs < length xs
  count_room xs i y h e f = grind (arith, common_steps, count_by-le-length test (set xs i y), length-set xs i y)
