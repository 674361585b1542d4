-- A slot written into an image.
use Rattle.std.proofs.lemmas.Bool.Decides.{nat_tests}
use Rattle.std.proofs.lemmas.Grind.{common_steps}
use Rattle.std.proofs.Common.{◌≡◌, ℕ, ◌+◌, ◌-◌, ◌*◌, ◌<◌, ◌≤◌, ◌⊎◌, List, length, get_or, sym, ◌∙◌, inl, inr, ⊎_elim, arith}
use Rattle.std.proofs.lemmas.List.{ext_get_or}
use Rattle.std.proofs.lemmas.Bool.{cases_lt}
use Rattle.placer.specs.SlotBytes.{bytes_at, with_bytes}

pub byte_of_lem : (image : List ℕ) (i k : ℕ) → k < 8 → get_or (bytes_at image i) k 0 ≡ get_or image (8 * i + k) 0
byte_of_lem image i k h1 = grind arith

module _ (image : List ℕ) (i : ℕ) (bytes : List ℕ) (there : 8 * i + 8 ≤ length image) (eight : length bytes ≡ 8) where
  pub length_with : length (with_bytes image i bytes) ≡ length image
  length_with = grind (arith, common_steps)

  pub byte_before : (j : ℕ) → j < 8 * i → get_or (with_bytes image i bytes) j 0 ≡ get_or image j 0
  byte_before j h1 = grind (arith, nat_tests, common_steps)

  pub byte_within : (j : ℕ) → 8 * i ≤ j → j < 8 * i + 8 → get_or (with_bytes image i bytes) j 0 ≡ get_or bytes (j - 8 * i) 0
  byte_within j h1 h2 = grind (arith, nat_tests, common_steps)

  pub byte_after : (j : ℕ) → 8 * i + 8 ≤ j → get_or (with_bytes image i bytes) j 0 ≡ get_or image j 0
  byte_after j h1 = grind (arith, nat_tests, common_steps)

  -- an image with the same bytes as another but for slot i, which has these
  pub with_is : (after : List ℕ) → length after ≡ length image
      → ((j : ℕ) → j < length image → (j < 8 * i) ⊎ (8 * i + 8 ≤ j) → get_or after j 0 ≡ get_or image j 0)
      → ((j : ℕ) → 8 * i ≤ j → j < 8 * i + 8 → get_or after j 0 ≡ get_or bytes (j - 8 * i) 0)
      → with_bytes image i bytes ≡ after
  with_is after same others here =
      ext_get_or 0 (with_bytes image i bytes) after (length_with ∙ sym same)
      (λ j l.
      let n = length_with in
      ⊎_elim (λ (h : j < 8 * i). byte_before j h ∙ sym (others j (omega arith) (inl h)))
      (λ (h : 8 * i ≤ j).
      ⊎_elim (λ (k : j < 8 * i + 8). byte_within j h k ∙ sym (here j h k))
      (λ (k : 8 * i + 8 ≤ j). byte_after j k ∙ sym (others j (omega arith) (inr k)))
      (cases_lt j (8 * i + 8)))
      (cases_lt j (8 * i)))
