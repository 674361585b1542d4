-- What a store means, of the bytes of memory as a list.
use Rattle.std.proofs.Common.{◌≡◌, ℕ, zero, suc, ◌+◌, ◌%◌, ◌/◌, ◌^◌, ◌≤◌, ◌<◌, List, [], ◌∷◌, ◌++◌, length, set, take, drop, sym, refl, ap, ◌∙◌, arith, append_assoc, add-one, length-set}
use Rattle.std.proofs.Math.Seq.{take-suc-set, drop-cons}
use Rattle.std.proofs.lemmas.List.{drop-set-lt, take-append-drop}
use Rattle.std.specs.Int.{w64, byte_at, bytes_low_first, to_le_bytes}
use Rattle.isa.specs.declared.kind.Size.{Size}
use Rattle.isa.specs.declared.kind.Size.TheVariants.{One, Two, Four, Eight}
use Rattle.isa.specs.Size.{bytes_in}
use Rattle.alu.specs.Memory.{replaced_from}

byte_is : (k v : ℕ) → v / 256 ^ k % 256 ≡ byte_at k v
byte_is zero v = omega arith
byte_is (suc k) v = refl

-- a store's bytes stand between those before and those after them
written : (m : List ℕ) (a v k n : ℕ) → a + k + n ≤ length m
    → replaced_from m a v k n ≡ take (a + k) m ++ (bytes_low_first k n v ++ drop n (drop (a + k) m))
written m a v k zero h = sym (take-append-drop (a + k) m)
written m a v k (suc n) h =
    let b : ℕ = v / 256 ^ k % 256 in
    let s : List ℕ = set m (a + k) b in
    let here : a + k < length m = omega arith in
    let next : a + (k + 1) ≡ suc (a + k) = omega arith in
    let front : take (a + (k + 1)) s ≡ take (a + k) m ++ b ∷ [] = ap (λ i. take i s) next ∙ take-suc-set m (a + k) b here in
    let past : drop (a + (k + 1)) s ≡ drop (suc (a + k)) m = drop-set-lt _ m (a + k) b (omega arith) ∙ ap (λ i. drop i m) next in
    let rest : drop (suc n) (drop (a + k) m) ≡ drop n (drop (suc (a + k)) m) = ap (drop (suc n)) (drop-cons m (a + k) 0 here) in
    written s a v (k + 1) n (omega (arith, length-set {A = ℕ}))
    ∙ ap (λ f. f ++ (bytes_low_first (k + 1) n v ++ drop n (drop (a + (k + 1)) s))) front
    ∙ append_assoc (take (a + k) m) (b ∷ []) _
    ∙ ap (λ d. take (a + k) m ++ b ∷ (bytes_low_first (k + 1) n v ++ drop n d)) past
    ∙ ap (λ d. take (a + k) m ++ b ∷ (bytes_low_first (k + 1) n v ++ d)) (sym rest)
    ∙ ap (λ x. take (a + k) m ++ x ∷ (bytes_low_first (k + 1) n v ++ drop (suc n) (drop (a + k) m))) (byte_is k v)
    ∙ ap (λ j. take (a + k) m ++ byte_at k v ∷ (bytes_low_first j n v ++ drop (suc n) (drop (a + k) m))) (add-one k)

low_bytes : (z : Size) (v : ℕ) → take (bytes_in z) (to_le_bytes w64 v) ≡ bytes_low_first 0 (bytes_in z) v
low_bytes One v = refl
low_bytes Two v = refl
low_bytes Four v = refl
low_bytes Eight v = refl

pub bytes_of : (z : Size) (m : List ℕ) (a v : ℕ) → a + bytes_in z ≤ length m
    → replaced_from m a v 0 (bytes_in z) ≡ take a m ++ (take (bytes_in z) (to_le_bytes w64 v) ++ drop (bytes_in z) (drop a m))
bytes_of z m a v h =
    let here : a + 0 ≡ a = omega arith in
    written m a v 0 (bytes_in z) (omega arith)
    ∙ ap (λ i. take i m ++ (bytes_low_first 0 (bytes_in z) v ++ drop (bytes_in z) (drop i m))) here
    ∙ ap (λ bytes. take a m ++ (bytes ++ drop (bytes_in z) (drop a m))) (sym (low_bytes z v))
