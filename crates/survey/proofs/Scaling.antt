-- How parts of a whole are scaled to a length.
use Rattle.std.proofs.Common.{◌≡◌, ℕ, zero, suc, ◌*◌, ◌/◌, ◌<◌, ◌≤◌, ◌==◌, false, min, refl, ap, ◌∙◌, arith}
use Rattle.std.proofs.lemmas.Bool.{cond-false}
use Rattle.std.proofs.lemmas.Bool.Decides.{nat_tests}
use Rattle.std.proofs.Math.Nat.{mul-div_cancel_left, zero-div, zero-mul, div-mul-le_self, mul-le-mul_right}
use Rattle.std.proofs.lemmas.Nat.{le-div}
use Rattle.survey.specs.Geometry.{scaled, ScaledRises}

some_whole : (part whole length : ℕ) → 0 < whole → scaled part whole length ≡ min part whole * length / whole
some_whole part whole length some =
    let nonzero : (whole == 0) ≡ false = grind (arith, nat_tests) in
    cond-false _ _ _ nonzero

scaled_none : (whole length : ℕ) → scaled 0 whole length ≡ 0
scaled_none zero length = refl
scaled_none (suc w) length =
    let nothing : min 0 (suc w) ≡ 0 = omega arith in
    some_whole 0 (suc w) length (omega arith) ∙ ap (λ n. n * length / suc w) nothing ∙ ap (λ n. n / suc w) (zero-mul length) ∙ zero-div (suc w)

scaled_all : (whole length : ℕ) → 0 < whole → scaled whole whole length ≡ length
scaled_all whole length some =
    some_whole whole whole length some ∙ ap (λ p. p * length / whole) (omega arith) ∙ mul-div_cancel_left length some

scaled_rises : (a b whole length : ℕ) → a ≤ b → scaled a whole length ≤ scaled b whole length
scaled_rises a b zero length le = omega arith
scaled_rises a b (suc w) length le =
    let few : min a (suc w) * length ≤ min b (suc w) * length = mul-le-mul_right length (omega arith) in
    let some : 0 < suc w = omega arith in
    rw (some_whole a (suc w) length some, some_whole b (suc w) length some)
    (le-div (min a (suc w) * length / suc w) (min b (suc w) * length) (suc w) some (omega (arith, few, div-mul-le_self (min a (suc w) * length) (suc w))))

pub rises : ScaledRises
rises = record { none = scaled_none; all = scaled_all; rises = scaled_rises }
