-- The entry of a line, word by word.
use Rattle.std.proofs.Common.{◌≡◌, ℕ, ◌^◌, List, [], ◌∷◌, ◌++◌, Option, Some, None, Bor, is_none, refl, sym, ap, ◌∙◌, append_assoc, if◌then◌else◌}
use Rattle.std.proofs.lemmas.Iterator.{YieldsList}
use Rattle.std.proofs.lemmas.List.{append-nil}
use Rattle.std.specs.Str.{IsUtf8}
use Rattle.std.specs.Str.Iter.{split_whitespace_steps, split_whitespace_rest}
use Rattle.std.specs.declared.str.SplitWhitespace.{SplitWhitespace}
use Rattle.inputs.specs.declared.prices.PriceName.{PriceName}
use Rattle.inputs.specs.Number.{number}
use Rattle.inputs.specs.Prices.{name_of, entry_with, entry_in, entry_of}
use Rattle.inputs.specs.Text.{words}
use Rattle.inputs.proofs.Taking.{taken, none_left}
use Rattle.inputs.proofs.Wording.{YieldsList-from_words}

-- the words of the line are these, and those that are left
pub record WordsSoFar (line : List ℕ) (front : List (List ℕ)) (it : SplitWhitespace) : Type 0 where
  pub rest : List (List ℕ)
  pub left : YieldsList split_whitespace_steps (λ x. x.now) it rest
  pub is : words line ≡ front ++ rest

pub words_begun : (line : List ℕ) (it : SplitWhitespace) → IsUtf8 line → split_whitespace_rest it ≡ line → WordsSoFar line [] it
words_begun line it text whole = record { rest = words line; left = YieldsList-from_words line text whole; is = refl }

pub word_came : {line : List ℕ} {front : List (List ℕ)} {it : SplitWhitespace} → WordsSoFar line front it → (x : Bor (List ℕ)) (t : SplitWhitespace) → split_whitespace_steps it (Some x) t → WordsSoFar line (front ++ x.now ∷ []) t
word_came {front = front} so x t step =
    let came = taken split_whitespace_steps (λ x. x.now) so.left x t step in
    record { rest = came.more; left = came.left; is = so.is ∙ ap (λ ws. front ++ ws) came.is ∙ sym (append_assoc front (x.now ∷ []) came.more) }

words_ended : {line : List ℕ} {front : List (List ℕ)} {it : SplitWhitespace} → WordsSoFar line front it → (t : SplitWhitespace) → split_whitespace_steps it None t → words line ≡ front
words_ended {front = front} so t step = so.is ∙ ap (λ ws. front ++ ws) (none_left split_whitespace_steps (λ x. x.now) so.left t step) ∙ append-nil front

-- no entry where the line ends early, or a word is none that is wanted
pub ends_before_name : {line : List ℕ} {it : SplitWhitespace} → WordsSoFar line [] it → (t : SplitWhitespace) → split_whitespace_steps it None t → entry_of line ≡ None
ends_before_name so t step = ap entry_in (words_ended so t step)

pub ends_before_price : {line name : List ℕ} {it : SplitWhitespace} → WordsSoFar line (name ∷ []) it → (t : SplitWhitespace) → split_whitespace_steps it None t → entry_of line ≡ None
ends_before_price so t step = ap entry_in (words_ended so t step)

unpriced : (name : Option PriceName) → entry_with name None ≡ None
unpriced (Some name) = refl
unpriced None = refl

no_name_in : (name : List ℕ) (rest : List (List ℕ)) → name_of name ≡ None → entry_in (name ∷ rest) ≡ None
no_name_in name [] is = refl
no_name_in name (price ∷ []) is = ap (λ n. entry_with n (number 10 (2 ^ 16) price)) is
no_name_in name (price ∷ more ∷ rest) is = refl

no_price_in : (name price : List ℕ) (rest : List (List ℕ)) → number 10 (2 ^ 16) price ≡ None → entry_in (name ∷ price ∷ rest) ≡ None
no_price_in name price [] is = ap (entry_with (name_of name)) is ∙ unpriced (name_of name)
no_price_in name price (more ∷ rest) is = refl

pub no_name : {line name : List ℕ} {it : SplitWhitespace} → WordsSoFar line (name ∷ []) it → name_of name ≡ None → entry_of line ≡ None
no_name {name = name} so is = ap entry_in so.is ∙ no_name_in name so.rest is

pub no_price : {line name price : List ℕ} {it : SplitWhitespace} → WordsSoFar line (name ∷ price ∷ []) it → number 10 (2 ^ 16) price ≡ None → entry_of line ≡ None
no_price {name = name} {price = price} so is = ap entry_in so.is ∙ no_price_in name price so.rest is

-- after a name and a price there is an entry just where no word is left
pub two_only : {line word price_word : List ℕ} {it : SplitWhitespace} (name : PriceName) (price : ℕ) → WordsSoFar line (word ∷ price_word ∷ []) it → name_of word ≡ Some name → number 10 (2 ^ 16) price_word ≡ Some price
    → (r : Option (Bor (List ℕ))) (t : SplitWhitespace) → split_whitespace_steps it r t → entry_of line ≡ (if is_none r then Some (record { name = name; price = price }) else None)
two_only {price_word = price_word} name price so named priced None t step = ap entry_in (words_ended so t step) ∙ ap (λ n. entry_with n (number 10 (2 ^ 16) price_word)) named ∙ ap (entry_with (Some name)) priced
two_only name price so named priced (Some x) t step = ap entry_in (word_came so x t step).is
