-- What an escaped text is, byte by byte, and how it is read.
use Rattle.std.proofs.Common.{◌≡◌, ℕ, ◌<◌, ◌≤◌, ◌==◌, false, List, [], ◌∷◌, ◌++◌, All, Some, None, get_or, refl, sym, ap, ◌∙◌, subst, arith, rules, append-nil, codes, unwrap_or, ⊎_elim}
use Rattle.std.proofs.lemmas.Bool.{cases_eq, cases_lt, cond-false}
use Rattle.std.proofs.lemmas.Bool.Decides.{nat_tests}
use Rattle.std.proofs.lemmas.List.Elements.{All-nil, All-cons, All-head, All-tail, All-append, All-from_get_or}
use Rattle.std.proofs.lemmas.Str.{inside_one, encode_ascii}
use Rattle.std.proofs.Math.Utf8.{encode}
use Rattle.report.specs.Escape.{entity_of, shown, escaped, reading, ReadsBack, Plain, Headed, Harmless}

-- a byte that needs no entity
abbrev Bare : ℕ → Type 0
Bare b = entity_of b ≡ None

-- what holds of the five entities, and of every other byte as itself, holds of whatever is shown
shown_cases : (P : ℕ → List ℕ → Type 0) → P 38 (codes "&amp;") → P 60 (codes "&lt;") → P 62 (codes "&gt;") → P 34 (codes "&quot;") → P 39 (codes "&#39;") → ((b : ℕ) → Bare b → P b (b ∷ [])) → (b : ℕ) → P b (shown b)
shown_cases P amp lt gt quot apos bare b =
    ⊎_elim
    (λ (e : b ≡ 38). subst (λ x. P x (shown x)) (sym e) amp)
    (λ (n38 : b ≡ 38 → ⊥). ⊎_elim
    (λ (e : b ≡ 60). subst (λ x. P x (shown x)) (sym e) lt)
    (λ (n60 : b ≡ 60 → ⊥). ⊎_elim
    (λ (e : b ≡ 62). subst (λ x. P x (shown x)) (sym e) gt)
    (λ (n62 : b ≡ 62 → ⊥). ⊎_elim
    (λ (e : b ≡ 34). subst (λ x. P x (shown x)) (sym e) quot)
    (λ (n34 : b ≡ 34 → ⊥). ⊎_elim
    (λ (e : b ≡ 39). subst (λ x. P x (shown x)) (sym e) apos)
    (λ (n39 : b ≡ 39 → ⊥).
    let none : Bare b = grind (arith, nat_tests) in
    subst (P b) (sym (ap (λ o. unwrap_or o (b ∷ [])) none)) (bare b none))
    (cases_eq b 39))
    (cases_eq b 34))
    (cases_eq b 62))
    (cases_eq b 60))
    (cases_eq b 38)

not_amp : (b : ℕ) → Bare b → (b == 38) ≡ false
not_amp b bare = grind (arith, nat_tests)

reads_one : (t : List ℕ) (b : ℕ) → reading None (shown b ++ t) ≡ b ∷ reading None t
reads_one t b =
    shown_cases (λ x s. reading None (s ++ t) ≡ x ∷ reading None t) refl refl refl refl refl
    (λ x bare. cond-false _ _ _ (not_amp x bare)) b

pub reads_back : ReadsBack
reads_back [] = refl
reads_back (b ∷ t) = reads_one (escaped t) b ∙ ap (λ r. b ∷ r) (reads_back t)

plain_bare : (b : ℕ) → Bare b → Plain b
plain_bare b bare = grind (arith, nat_tests)

plain_shown : (b : ℕ) → All Plain (shown b)
plain_shown b =
    shown_cases (λ x s. All Plain s)
    (search (rules, All-cons, All-nil)) (search (rules, All-cons, All-nil)) (search (rules, All-cons, All-nil))
    (search (rules, All-cons, All-nil)) (search (rules, All-cons, All-nil))
    (λ x bare. All-cons Plain x [] (plain_bare x bare) (All-nil Plain)) b

plain_all : (t : List ℕ) → All Plain (escaped t)
plain_all [] = All-nil Plain
plain_all (b ∷ t) = All-append Plain (shown b) (escaped t) (plain_shown b) (plain_all t)

headed_one : (t : List ℕ) → Headed t → (b : ℕ) → Headed (shown b ++ t)
headed_one t h b =
    shown_cases (λ x s. Headed (s ++ t))
    ((λ _. record { byte = 38; entity = codes "&amp;"; is = refl; rest = t; begins = refl }), ((λ e. absurd (omega (arith, e))), ((λ e. absurd (omega (arith, e))), ((λ e. absurd (omega (arith, e))), ((λ e. absurd (omega (arith, e))), h)))))
    ((λ _. record { byte = 60; entity = codes "&lt;"; is = refl; rest = t; begins = refl }), ((λ e. absurd (omega (arith, e))), ((λ e. absurd (omega (arith, e))), ((λ e. absurd (omega (arith, e))), h))))
    ((λ _. record { byte = 62; entity = codes "&gt;"; is = refl; rest = t; begins = refl }), ((λ e. absurd (omega (arith, e))), ((λ e. absurd (omega (arith, e))), ((λ e. absurd (omega (arith, e))), h))))
    ((λ _. record { byte = 34; entity = codes "&quot;"; is = refl; rest = t; begins = refl }), ((λ e. absurd (omega (arith, e))), ((λ e. absurd (omega (arith, e))), ((λ e. absurd (omega (arith, e))), ((λ e. absurd (omega (arith, e))), ((λ e. absurd (omega (arith, e))), h))))))
    ((λ _. record { byte = 39; entity = codes "&#39;"; is = refl; rest = t; begins = refl }), ((λ e. absurd (omega (arith, e))), ((λ e. absurd (omega (arith, e))), ((λ e. absurd (omega (arith, e))), ((λ e. absurd (omega (arith, e))), h)))))
    (λ x bare. ((λ e. absurd (grind (arith, nat_tests))), h)) b

headed_all : (t : List ℕ) → Headed (escaped t)
headed_all [] = tt
headed_all (b ∷ t) = headed_one (escaped t) (headed_all t) b

pub harmless : Harmless
harmless = record { plain = plain_all; headed = headed_all }

-- a character past the ASCII ones needs no entity, nor does any byte of it
high_bare : (b : ℕ) → 128 ≤ b → Bare b
high_bare b high = grind (arith, nat_tests)

bare_bytes : (c : ℕ) → Bare c → All Bare (encode c)
bare_bytes c bare =
    All-from_get_or Bare (encode c) 0
    (λ k inside. ⊎_elim
    (λ (low : get_or (encode c) k 0 < 128). subst Bare (inside_one c [] (encode c) k (sym (append-nil (encode c))) inside low) bare)
    (λ (high : 128 ≤ get_or (encode c) k 0). high_bare _ high)
    (cases_lt (get_or (encode c) k 0) 128))

-- bytes that need no entity stay
stays : (xs rest : List ℕ) → All Bare xs → escaped (xs ++ rest) ≡ xs ++ escaped rest
stays [] rest bare = refl
stays (b ∷ xs) rest bare =
    ap (λ o. unwrap_or o (b ∷ []) ++ escaped (xs ++ rest)) (All-head Bare b xs bare) ∙ ap (λ l. b ∷ l) (stays xs rest (All-tail Bare b xs bare))

-- a character that needs no entity
pub bare_step : (c : ℕ) (text rest : List ℕ) → text ≡ encode c ++ rest → Bare c → escaped text ≡ encode c ++ escaped rest
bare_step c text rest parts bare = ap escaped parts ∙ stays (encode c) rest (bare_bytes c bare)

special_low : (c : ℕ) (e : List ℕ) → entity_of c ≡ Some e → c < 128
special_low c e special = grind (arith, nat_tests)

-- a character that an entity stands for
pub entity_step : (c : ℕ) (e text rest : List ℕ) → text ≡ encode c ++ rest → entity_of c ≡ Some e → escaped text ≡ e ++ escaped rest
entity_step c e text rest parts special =
    ap escaped (parts ∙ ap (λ l. l ++ rest) (encode_ascii c (special_low c e special))) ∙ ap (λ o. unwrap_or o (c ∷ []) ++ escaped rest) special
