-- The words of a line, one by one.
use Rattle.std.proofs.Common.{◌≡◌, ℕ, ◌<◌, Bool, true, false, List, [], ◌∷◌, ◌++◌, length, map, filter, refl, sym, ap, subst, ◌∙◌, arith, append_assoc, nat_lt}
use Rattle.std.proofs.lemmas.Bool.{and_parts, lt-ltb, not-false, cond-true}
use Rattle.std.proofs.lemmas.Iterator.{YieldsList}
use Rattle.std.proofs.lemmas.Iterator.Splits.{YieldsList-from_shown_while}
use Rattle.std.proofs.lemmas.List.{append-nil, length-append}
use Rattle.std.proofs.lemmas.List.Elements.{All-nil, All-cons}
use Rattle.std.proofs.lemmas.List.Splits.{slice_split-cons_yes, slice_split_none, slice_split_at}
use Rattle.std.proofs.lemmas.Str.{chars-encodes, cons_from_encodes, encode_same, encodes_same, length-encode, len_utf8_bounds}
use Rattle.std.specs.Char.{is_whitespace, is_not_whitespace, encode_utf8}
use Rattle.std.specs.List.{All}
use Rattle.std.specs.Str.{chars, encode_utf8_all, all_scalars, IsUtf8, NonePass, NoCharPasses, EmptyOrStartsWithPassing}
use Rattle.std.specs.Str.Iter.{split_whitespace_steps, split_whitespace_rest}
use Rattle.std.specs.declared.str.SplitWhitespace.{SplitWhitespace}
use Rattle.inputs.specs.Text.{parts, words}

all_from_none : (p : ℕ → Bool) (cs : List ℕ) → NonePass p cs → All (λ c. p c ≡ false) cs
all_from_none p [] h = All-nil (λ c. p c ≡ false)
all_from_none p (c ∷ cs) h = All-cons (λ c. p c ≡ false) c cs h.0 (all_from_none p cs h.1)

-- white space before the words makes no difference
parts-white : (c : ℕ) (cs : List ℕ) → is_whitespace c ≡ true → parts (c ∷ cs) ≡ parts cs
parts-white c cs white = ap (filter (λ part. nat_lt 0 (length part))) (slice_split-cons_yes is_whitespace c cs white)

parts-gap : (gap cs : List ℕ) → NonePass is_not_whitespace gap → parts (gap ++ cs) ≡ parts cs
parts-gap [] cs h = refl
parts-gap (c ∷ gap) cs h = parts-white c (gap ++ cs) (not-false _ h.0) ∙ parts-gap gap cs h.1

-- a word that nothing follows
parts-last : (word : List ℕ) → 0 < length word → NonePass is_whitespace word → parts word ≡ word ∷ []
parts-last word some h =
    ap (filter (λ part. nat_lt 0 (length part))) (slice_split_none is_whitespace word (all_from_none is_whitespace word h))
    ∙ cond-true (nat_lt 0 (length word)) (word ∷ []) [] (lt-ltb _ _ some)

-- a word that white space follows
parts-word : (word : List ℕ) (c : ℕ) (cs : List ℕ) → 0 < length word → NonePass is_whitespace word → is_whitespace c ≡ true → parts (word ++ (c ∷ cs)) ≡ word ∷ parts (c ∷ cs)
parts-word word c cs some h white =
    ap (filter (λ part. nat_lt 0 (length part))) (slice_split_at is_whitespace word c cs (all_from_none is_whitespace word h) white)
    ∙ cond-true (nat_lt 0 (length word)) (word ∷ parts cs) (parts cs) (lt-ltb _ _ some) ∙ ap (λ ps. word ∷ ps) (sym (parts-white c cs white))

-- what is left of the characters behind those that a text begins with
pub record Rest (cs front : List ℕ) (rest : List ℕ) : Type 0 where
  pub more : List ℕ
  pub is : cs ≡ front ++ more
  pub spells : encode_utf8_all more ≡ rest

rest_behind : (cs front : List ℕ) (rest : List ℕ) → encode_utf8_all cs ≡ encode_utf8_all front ++ rest → Rest cs front rest
rest_behind cs [] rest e = record { more = cs; is = refl; spells = e }
rest_behind cs (c ∷ front) rest e =
    let (es, is, spells) = cons_from_encodes cs (encode_utf8_all front ++ rest) c (e ∙ append_assoc (encode_utf8 c) (encode_utf8_all front) rest) in
    let r = rest_behind es front rest spells in
    record { more = r.more; is = is ∙ ap (λ v. c ∷ v) r.is; spells = r.spells }

scalars_behind : (front cs : List ℕ) → all_scalars (front ++ cs) ≡ true → all_scalars cs ≡ true
scalars_behind [] cs h = h
scalars_behind (c ∷ front) cs h = scalars_behind front cs (and_parts _ _ h).1

-- a text is the characters that spell it
chars_of : (bs cs : List ℕ) → all_scalars cs ≡ true → encode_utf8_all cs ≡ bs → chars bs ≡ cs
chars_of bs cs scalar spells = ap chars (sym spells) ∙ chars-encodes cs scalar

some_spell : (cs : List ℕ) → 0 < length (encode_utf8_all cs) → 0 < length cs
some_spell [] h = h
some_spell (c ∷ cs) h = omega arith

parts_first : (word cs more : List ℕ) → 0 < length word → NonePass is_whitespace word → EmptyOrStartsWithPassing is_whitespace (encode_utf8_all cs) more → parts (word ++ cs) ≡ word ∷ parts cs
parts_first word [] more some solid after = ap parts (append-nil word) ∙ parts-last word some solid
parts_first word (c ∷ cs) more some solid after =
    let starts = after (omega (arith, length-append (encode_utf8 c) (encode_utf8_all cs), length-encode c, (len_utf8_bounds c).0)) in
    let same = encode_same c starts.0 (encode_utf8_all cs) more starts.2 in
    parts-word word c cs some solid (subst (λ d. is_whitespace d ≡ true) (sym same.0) starts.1)

-- the words are the first word and those of what follows it
word_first : (bs gap word rest more : List ℕ) → IsUtf8 bs → bs ≡ gap ++ (word ++ rest) → 0 < length word → NoCharPasses is_not_whitespace gap → NoCharPasses is_whitespace word
    → EmptyOrStartsWithPassing is_whitespace rest more → IsUtf8 rest × (words bs ≡ word ∷ words rest)
word_first bs gap word rest more text is some white solid after =
    let g : List ℕ = white.0 in
    let w : List ℕ = solid.0 in
    let behind_gap = rest_behind text.0 g (word ++ rest) (text.1.1 ∙ is ∙ ap (λ v. v ++ (word ++ rest)) (sym white.1)) in
    let behind_word = rest_behind behind_gap.more w rest (behind_gap.spells ∙ ap (λ v. v ++ rest) (sym solid.1)) in
    let es : List ℕ = behind_word.more in
    let whole : text.0 ≡ g ++ (w ++ es) = behind_gap.is ∙ ap (λ v. g ++ v) behind_word.is in
    let scalar : all_scalars es ≡ true = scalars_behind w es (scalars_behind g (w ++ es) (subst (λ cs. all_scalars cs ≡ true) whole text.1.0)) in
    let cut : parts (w ++ es) ≡ w ∷ parts es =
    parts_first w es more (some_spell w (subst (λ v. 0 < length v) (sym solid.1) some)) solid.2 (subst (λ v. EmptyOrStartsWithPassing is_whitespace v more) (sym behind_word.spells) after) in (
      (es, (scalar, behind_word.spells)),
      ap (λ cs. map encode_utf8_all (parts cs)) (chars_of bs text.0 text.1.0 text.1.1 ∙ whole) ∙ ap (map encode_utf8_all) (parts-gap g (w ++ es) white.2 ∙ cut)
          ∙ ap (λ v. v ∷ map encode_utf8_all (parts es)) solid.1 ∙ ap (λ cs. word ∷ map encode_utf8_all (parts cs)) (sym (chars_of rest es scalar behind_word.spells)),
    )

-- where only white space is left there are no words
no_words : (bs : List ℕ) → IsUtf8 bs → NoCharPasses is_not_whitespace bs → length (words bs) ≡ 0
no_words bs text white =
    let g : List ℕ = white.0 in
    let same : text.0 ≡ g = encodes_same text.0 g (text.1.1 ∙ sym white.1) in
    ap (λ cs. length (map encode_utf8_all (parts cs))) (chars_of bs text.0 text.1.0 text.1.1 ∙ same ∙ sym (append-nil g)) ∙ ap (λ ps. length (map encode_utf8_all ps)) (parts-gap g [] white.2)

-- the words of a text
pub YieldsList-from_words : {s : SplitWhitespace} (bs : List ℕ) → IsUtf8 bs → split_whitespace_rest s ≡ bs → YieldsList split_whitespace_steps (λ x. x.now) s (words bs)
YieldsList-from_words {s} bs text is =
    subst (λ v. YieldsList split_whitespace_steps (λ x. x.now) s (words v)) is
    (YieldsList-from_shown_while split_whitespace_steps (λ x. x.now) (λ t. words (split_whitespace_rest t)) (λ t. IsUtf8 (split_whitespace_rest t))
    (λ t u h k. no_words (split_whitespace_rest t) h k.1)
    (λ t x u h k. word_first (split_whitespace_rest t) k.0 x.now (split_whitespace_rest u) k.5.0 h k.1 k.2 k.3 k.4 k.5.1)
    s (subst IsUtf8 (sym is) text))
