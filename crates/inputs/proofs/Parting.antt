-- The numbers between commas, one by one.
use Rattle.std.proofs.Common.{◌≡◌, ℕ, ◌^◌, true, List, [], ◌∷◌, ◌++◌, map, Option, Some, None, Bor, refl, sym, ap, ◌∙◌, append_assoc, lit<, is_none, if◌then◌else◌}
use Rattle.std.proofs.lemmas.Iterator.{YieldsList}
use Rattle.std.proofs.lemmas.Iterator.Splits.{YieldsList-from_str_split}
use Rattle.std.proofs.lemmas.List.{append-nil, map_push}
use Rattle.std.specs.Str.Iter.{split_steps, split_text, split_has_more, split_pattern}
use Rattle.std.specs.Str.Pattern.{FindsChar}
use Rattle.std.specs.declared.str.Split.{Split}
use Rattle.inputs.specs.Number.{number}
use Rattle.inputs.specs.Supply.{numbers_of, capacitor_of}
use Rattle.inputs.specs.declared.supply.SupplyWord.TheVariants.{Capacitor}
use Rattle.inputs.proofs.Taking.{Taken, taken, none_left}

abbrev pub cut_steps : Split ℕ → Option (Bor (List ℕ)) → Split ℕ → Type 0
cut_steps = split_steps FindsChar (λ a b. b ≡ a)

abbrev pub number_of : List ℕ → Option ℕ
number_of = number 10 (2 ^ 32)

-- the numbers of the text are these, and those of the parts that are left
pub record NumbersSoFar (text : List ℕ) (front : List ℕ) (it : Split ℕ) : Type 0 where
  pub parts : List (List ℕ)
  pub left : YieldsList cut_steps (λ x. x.now) it parts
  pub is : numbers_of text ≡ map Some front ++ map number_of parts

pub numbers_begun : (text : List ℕ) (it : Split ℕ) → split_text it ≡ text → split_has_more it ≡ true → split_pattern it ≡ 44 → NumbersSoFar text [] it
numbers_begun text it whole more comma = record { parts = _; left = YieldsList-from_str_split 44 text (lit< tt) whole more comma; is = refl }

module _ {text front : List ℕ} {it : Split ℕ} (so : NumbersSoFar text front it) (x : Bor (List ℕ)) (t : Split ℕ) (step : cut_steps it (Some x) t) where
  came : Taken cut_steps (λ x. x.now) so.parts x t
  came = taken cut_steps (λ x. x.now) so.left x t step

  -- one part came, and what it is decides how the list goes on
  pub part_came : (o : Option ℕ) → number_of x.now ≡ o → (rest : List (Option ℕ)) × (numbers_of text ≡ map Some front ++ o ∷ rest)
  part_came o is = (map number_of came.more, so.is ∙ ap (λ ps. map Some front ++ map number_of ps) came.is ∙ ap (λ v. map Some front ++ v ∷ map number_of came.more) is)

  pub number_came : (n : ℕ) → number_of x.now ≡ Some n → NumbersSoFar text (front ++ n ∷ []) t
  number_came n is = record {
    parts = came.more;
    left = came.left;
    is = so.is ∙ ap (λ ps. map Some front ++ map number_of ps) came.is ∙ ap (λ v. map Some front ++ v ∷ map number_of came.more) is
        ∙ sym (append_assoc (map Some front) (Some n ∷ []) (map number_of came.more)) ∙ ap (λ f. f ++ map number_of came.more) (sym (map_push Some front n));
  }

pub numbers_ended : {text front : List ℕ} {it : Split ℕ} → NumbersSoFar text front it → (t : Split ℕ) → cut_steps it None t → numbers_of text ≡ map Some front
numbers_ended {front = front} so t step =
    so.is ∙ ap (λ ps. map Some front ++ map number_of ps) (none_left cut_steps (λ x. x.now) so.left t step) ∙ append-nil (map Some front)

-- after four numbers the word is a capacitor just where no part is left
pub four_only : {text : List ℕ} {it : Split ℕ} (microfarads top bottom unit : ℕ) → NumbersSoFar text (microfarads ∷ top ∷ bottom ∷ unit ∷ []) it → (r : Option (Bor (List ℕ))) (t : Split ℕ) → cut_steps it r t
    → capacitor_of (numbers_of text) ≡ (if is_none r then Some (Capacitor microfarads top bottom unit) else None)
four_only microfarads top bottom unit so None t step = ap capacitor_of (numbers_ended so t step)
four_only microfarads top bottom unit so (Some x) t step = ap capacitor_of (part_came so x t step (number_of x.now) refl).1
