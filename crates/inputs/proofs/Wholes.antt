-- A sheet with all prices, and one where some are missing.
use Rattle.std.proofs.Common.{◌≡◌, ℕ, ◌<◌, ◌≤◌, false, List, length, map, get_or, position, Option, Some, None, is_none, nat_lt, if◌then◌else◌, unwrap_or, Ok, Err, refl, sym, ap, ◌∙◌, arith, inl, inr}
use Rattle.std.proofs.lemmas.Bool.{cond-true, cond-false, lt-ltb, le-ltb, cases_lt}
use Rattle.std.proofs.lemmas.List.{ext_get_or, length-map, get_or-map}
use Rattle.std.proofs.lemmas.List.Sums.{position_or_len_is, fails_before_first}
use Rattle.std.specs.List.{position_or_len}
use Rattle.inputs.specs.declared.prices.PricesError.TheVariants.{Missing}
use Rattle.inputs.specs.Prices.{name_at, whole_unless, whole}

-- the first place at which a sheet has no price
pub first_missing : (sheet : List (Option ℕ)) (k : ℕ) → k < length sheet → ((j : ℕ) → j < k → is_none (get_or sheet j None) ≡ false) → get_or sheet k None ≡ None → whole sheet ≡ Err (Missing (name_at k))
first_missing sheet k inside before missing =
    let at : position_or_len is_none sheet ≡ k = position_or_len_is is_none sheet k None (omega arith) before (λ _. ap is_none missing) in
    ap (λ p. whole_unless p sheet) (ap (λ n. if nat_lt n (length sheet) then Some n else None) at ∙ cond-true _ _ _ (lt-ltb k (length sheet) inside))

-- a sheet that has all of these prices
pub all_known : (sheet : List (Option ℕ)) (prices : List ℕ) → length prices ≡ length sheet → ((k : ℕ) → k < length sheet → get_or sheet k None ≡ Some (get_or prices k 0)) → whole sheet ≡ Ok prices
all_known sheet prices long known =
    let at : position_or_len is_none sheet ≡ length sheet = position_or_len_is is_none sheet (length sheet) None (omega arith) (λ k l. ap is_none (known k l)) (λ l. absurd (omega arith)) in
    ap (λ p. whole_unless p sheet) (ap (λ n. if nat_lt n (length sheet) then Some n else None) at ∙ cond-false _ _ _ (le-ltb (length sheet) (length sheet) (omega arith)))
    ∙ ap Ok (ext_get_or 0 _ _ (length-map sheet (λ price. unwrap_or price 0) ∙ sym long)
    (λ k l. let inside : k < length sheet = omega (arith, length-map sheet (λ price. unwrap_or price 0)) in get_or-map (λ price. unwrap_or price 0) sheet k None 0 inside ∙ ap (λ price. unwrap_or price 0) (known k inside)))

known_from : (p : Option ℕ) → is_none p ≡ false → p ≡ Some (unwrap_or p 0)
known_from (Some p) h = refl
known_from None h = (cc)

nowhere : (sheet : List (Option ℕ)) → position is_none sheet ≡ None → length sheet ≤ position_or_len is_none sheet
nowhere sheet none = elim (cases_lt (position_or_len is_none sheet) (length sheet)) [
  | inl below ↦ let some : position is_none sheet ≡ Some (position_or_len is_none sheet) = cond-true _ _ _ (lt-ltb _ _ below) in cc
  | inr above ↦ above
]

whole_says_at : (sheet : List (Option ℕ)) (prices : List ℕ) (o : Option ℕ) → position is_none sheet ≡ o → whole_unless o sheet ≡ Ok prices
    → (length prices ≡ length sheet) × ((k : ℕ) → k < length sheet → get_or sheet k None ≡ Some (get_or prices k 0))
whole_says_at sheet prices (Some missing) at is = (cc)
whole_says_at sheet prices None at is =
    let listed : map (λ price. unwrap_or price 0) sheet ≡ prices = (cc) in
    let above : length sheet ≤ position_or_len is_none sheet = nowhere sheet at in (
      ap length (sym listed) ∙ length-map sheet (λ price. unwrap_or price 0),
      λ k inside. known_from (get_or sheet k None) (fails_before_first is_none sheet k None (omega arith))
          ∙ ap Some (sym (get_or-map (λ price. unwrap_or price 0) sheet k None 0 inside) ∙ ap (λ ps. get_or ps k 0) listed),
    )

-- what a whole sheet says of each place
pub whole_says : (sheet : List (Option ℕ)) (prices : List ℕ) → whole sheet ≡ Ok prices → (length prices ≡ length sheet) × ((k : ℕ) → k < length sheet → get_or sheet k None ≡ Some (get_or prices k 0))
whole_says sheet prices is = whole_says_at sheet prices (position is_none sheet) refl is
