-- A number as `parse` reads it is the number that the definition says.
use Rattle.std.proofs.Common.{◌≡◌, ℕ, ◌<◌, ◌^◌, Bool, true, false, List, [], ◌∷◌, Some, None, Result, Ok, Err, refl, sym, ap, subst, ◌∙◌, if◌then◌else◌}
use Rattle.std.proofs.lemmas.Bool.{ltb-true, lt-ltb, and_parts, and_from, cond-true, cond-false, false_from_ne_true}
use Rattle.std.specs.Result.{result_ok}
use Rattle.std.specs.Str.Parse.{AllDigits, IsNumeral, ParsesUnsigned, digits_value, without_leading_plus}
use Rattle.inputs.specs.Number.{all_digits, is_number, number}

digits_from_test : (radix : ℕ) (ds : List ℕ) → all_digits radix ds ≡ true → AllDigits radix ds
digits_from_test radix [] h = tt
digits_from_test radix (d ∷ ds) h =
    let (here, rest) = and_parts _ _ h in
    (ltb-true _ _ here, digits_from_test radix ds rest)

test_from_digits : (radix : ℕ) (ds : List ℕ) → AllDigits radix ds → all_digits radix ds ≡ true
test_from_digits radix [] h = refl
test_from_digits radix (d ∷ ds) h = and_from _ _ (lt-ltb _ _ h.0) (test_from_digits radix ds h.1)

numeral_from_test : (radix limit : ℕ) (ds : List ℕ) → is_number radix limit ds ≡ true → IsNumeral radix ds × (digits_value radix ds < limit)
numeral_from_test radix limit ds h =
    let (some, more) = and_parts _ _ h in
    let (digits, below) = and_parts _ _ more in
    ((ltb-true _ _ some, digits_from_test radix ds digits), ltb-true _ _ below)

test_from_numeral : (radix limit : ℕ) (ds : List ℕ) → IsNumeral radix ds × (digits_value radix ds < limit) → is_number radix limit ds ≡ true
test_from_numeral radix limit ds h =
    and_from _ _ (lt-ltb _ _ h.0.0) (and_from _ _ (test_from_digits radix ds h.0.1) (lt-ltb _ _ h.1))

-- what `parse` and `from_str_radix` answer, as an option
pub parsed : {E : Type 0} (k radix : ℕ) (word : List ℕ) (r : Result ℕ E) → ParsesUnsigned k radix word r → result_ok r ≡ number radix (2 ^ k) word
parsed k radix word (Ok n) h =
    ap Some h.1 ∙ sym (cond-true _ _ _ (test_from_numeral radix (2 ^ k) (without_leading_plus word) h.0))
parsed k radix word (Err e) h =
    sym (cond-false _ _ _ (false_from_ne_true _ (λ is. h (numeral_from_test radix (2 ^ k) (without_leading_plus word) is))))

below_if : (b : Bool) (v n limit : ℕ) → (b ≡ true → v < limit) → (if b then Some v else None) ≡ Some n → n < limit
below_if true v n limit below is = let same : v ≡ n = (cc) in subst (λ m. m < limit) same (below refl)
below_if false v n limit below is = (cc)

-- a number is below its limit
pub number_below : (radix limit : ℕ) (word : List ℕ) (n : ℕ) → number radix limit word ≡ Some n → n < limit
number_below radix limit word n is =
    let ds : List ℕ = without_leading_plus word in
    below_if (is_number radix limit ds) (digits_value radix ds) n limit (λ h. (numeral_from_test radix limit ds h).1) is
