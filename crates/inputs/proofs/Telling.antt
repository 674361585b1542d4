-- Answers about words, and the errors that they hand on.
use Rattle.std.proofs.Common.{◌≡◌, ℕ, ◌≤◌, ◌-◌, List, [], ◌∷◌, length, get_or, take, drop, Result, Ok, Err, Bor, ap, sym, arith}
use Rattle.std.proofs.lemmas.List.{take_rest}
use Rattle.inputs.specs.declared.misuse.CommandError.{CommandError}
use Rattle.inputs.specs.declared.misuse.CommandError.TheVariants.{NoSuchCommand, Misused, OutOfMemory}
use Rattle.inputs.specs.declared.misuse.Verb.{Verb}
use Rattle.inputs.specs.declared.misuse.Verb.TheVariants as verb
use Rattle.inputs.specs.Command.{headroom, supply_among, supply_if, headroom_of}
use Rattle.inputs.specs.Misuse.{Told, read_then}
use Rattle.inputs.specs.Options.{Text, Words, Chosen, texts, prices_in, chosen_with, chosen_from}

-- an error that one answer hands on to another
pub told_on : {A B C D : Type 0} (view : A → B) (other : C → D) (r : Result B CommandError) (s : Result D CommandError) (e : CommandError) → ((d : CommandError) → r ≡ Err d → s ≡ Err d) → Told view r (Err e) → Told other s (Err e)
told_on view other r s (Misused v how) on told = on (Misused v how) told
told_on view other r s NoSuchCommand on told = on NoSuchCommand told
told_on view other r s OutOfMemory on told = tt

-- an error that is expected
pub told_err : {A B : Type 0} (view : A → B) (r : Result B CommandError) (e : CommandError) → r ≡ Err e → Told view r (Err e)
told_err view r (Misused v how) is = is
told_err view r NoSuchCommand is = is
told_err view r OutOfMemory is = tt

-- the first word, or the first two, and those behind
pub texts_first : (words : List (Bor (List ℕ))) (d : Bor (List ℕ)) → 1 ≤ length words → texts words ≡ (get_or words 0 d).now ∷ texts (take (length words - 1) (drop 1 words))
texts_first [] d some = absurd (omega arith)
texts_first (word ∷ more) d some = ap (λ ws. word.now ∷ texts ws) (sym (take_rest (word ∷ more) 1))

pub texts_two : (words : List (Bor (List ℕ))) (d : Bor (List ℕ)) → 2 ≤ length words → texts words ≡ (get_or words 0 d).now ∷ (get_or words 1 d).now ∷ texts (take (length words - 2) (drop 2 words))
texts_two [] d some = absurd (omega arith)
texts_two (word ∷ []) d some = absurd (omega arith)
texts_two (word ∷ next ∷ more) d some = ap (λ ws. word.now ∷ next.now ∷ texts ws) (sym (take_rest (word ∷ next ∷ more) 2))

pub headroom_failed : (round : Text) (rest : Words) (e : CommandError) → supply_if verb.Headroom (supply_among rest).0 ≡ Err e → headroom_of (round ∷ rest) ≡ Err e
headroom_failed round rest e is = ap (λ r. read_then r (λ supply. read_then (prices_in verb.Headroom (supply_among rest).1) (λ prices. Ok (headroom round supply prices)))) is

pub chosen_on : (v : Verb) (c next : Chosen) (option value : Text) (more : Words) → chosen_with v c option value ≡ Ok next → chosen_from v c (option ∷ value ∷ more) ≡ chosen_from v next more
chosen_on v c next option value more is = ap (λ r. read_then r (λ n. chosen_from v n more)) is

-- the same for three words, and for four
pub texts_three : (words : List (Bor (List ℕ))) (d : Bor (List ℕ)) → 3 ≤ length words → texts words ≡ (get_or words 0 d).now ∷ (get_or words 1 d).now ∷ (get_or words 2 d).now ∷ texts (take (length words - 3) (drop 3 words))
texts_three [] d some = absurd (omega arith)
texts_three (a ∷ []) d some = absurd (omega arith)
texts_three (a ∷ b ∷ []) d some = absurd (omega arith)
texts_three (a ∷ b ∷ c ∷ more) d some = ap (λ ws. a.now ∷ b.now ∷ c.now ∷ texts ws) (sym (take_rest (a ∷ b ∷ c ∷ more) 3))

pub texts_four : (words : List (Bor (List ℕ))) (d : Bor (List ℕ)) → 4 ≤ length words
    → texts words ≡ (get_or words 0 d).now ∷ (get_or words 1 d).now ∷ (get_or words 2 d).now ∷ (get_or words 3 d).now ∷ texts (take (length words - 4) (drop 4 words))
texts_four [] d some = absurd (omega arith)
texts_four (a ∷ []) d some = absurd (omega arith)
texts_four (a ∷ b ∷ []) d some = absurd (omega arith)
texts_four (a ∷ b ∷ c ∷ []) d some = absurd (omega arith)
texts_four (a ∷ b ∷ c ∷ e ∷ more) d some = ap (λ ws. a.now ∷ b.now ∷ c.now ∷ e.now ∷ texts ws) (sym (take_rest (a ∷ b ∷ c ∷ e ∷ more) 4))
