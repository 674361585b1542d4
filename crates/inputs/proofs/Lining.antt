-- The lines of a text that say something, one by one.
use Rattle.std.proofs.Common.{◌≡◌, ℕ, ◌+◌, Bool, true, false, List, [], ◌∷◌, Some, None, Bor, ap, sym, refl, ◌∙◌, if◌then◌else◌}
use Rattle.std.proofs.lemmas.Bool.{cond-true, cond-false}
use Rattle.std.proofs.lemmas.Iterator.{YieldsList}
use Rattle.std.proofs.lemmas.Iterator.Splits.{YieldsList-from_lines}
use Rattle.std.specs.Iterator.Adapters.{enumerate_source, enumerate_count, enumerate_steps}
use Rattle.std.specs.Str.{trim}
use Rattle.std.specs.Str.Iter.{lines_steps, lines_rest}
use Rattle.std.specs.Str.Lines.{lines}
use Rattle.std.specs.declared.iter.Enumerate.{Enumerate}
use Rattle.std.specs.declared.str.Lines.{Lines}
use Rattle.inputs.specs.Said.{says_nothing, said_from, said_lines}
use Rattle.inputs.proofs.Taking.{Taken, taken, none_left}

module _ {Y : Type 0} where
  -- the whole is what `from` makes of the said lines among those that are left
  pub record SaidSoFar (from : List (ℕ × List ℕ) → Y) (whole : Y) (it : Enumerate Lines) : Type 0 where
    pub index : ℕ
    pub rest : List (List ℕ)
    pub count : enumerate_count it ≡ index
    pub left : YieldsList lines_steps (λ x. x.now) (enumerate_source it) rest
    pub is : whole ≡ from (said_from (index + 1) rest)

  pub lines_begun : (from : List (ℕ × List ℕ) → Y) (text : List ℕ) (it : Enumerate Lines) → lines_rest (enumerate_source it) ≡ text → enumerate_count it ≡ 0 → SaidSoFar from (from (said_lines text)) it
  lines_begun from text it rest count = record { index = 0; rest = lines text; count = count; left = YieldsList-from_lines text rest; is = refl }

  pub lines_ended : {from : List (ℕ × List ℕ) → Y} {whole : Y} {it : Enumerate Lines} → SaidSoFar from whole it → (t : Enumerate Lines) → enumerate_steps lines_steps it None t → whole ≡ from []
  lines_ended {from} so t step = so.is ∙ ap (λ ls. from (said_from (so.index + 1) ls)) (none_left lines_steps (λ x. x.now) so.left (enumerate_source t) step.0)

  module _ {from : List (ℕ × List ℕ) → Y} {whole : Y} {it : Enumerate Lines} (so : SaidSoFar from whole it) (p : ℕ × Bor (List ℕ)) (t : Enumerate Lines) (step : enumerate_steps lines_steps it (Some p) t) where
    came : Taken lines_steps (λ x. x.now) so.rest p.1 (enumerate_source t)
    came = taken lines_steps (λ x. x.now) so.left p.1 (enumerate_source t) step.0

    on : enumerate_count t ≡ so.index + 1
    on = step.2 ∙ ap (λ n. n + 1) so.count

    -- a line that says nothing
    pub line_passed : says_nothing (trim p.1.now) ≡ true → SaidSoFar from whole t
    line_passed nothing = record {
      index = so.index + 1;
      rest = came.more;
      count = on;
      left = came.left;
      is = so.is ∙ ap (λ ls. from (said_from (so.index + 1) ls)) came.is ∙ ap from (cond-true _ _ _ nothing);
    }

    said : says_nothing (trim p.1.now) ≡ false → whole ≡ from ((so.index + 1, trim p.1.now) ∷ said_from (so.index + 1 + 1) came.more)
    said something = so.is ∙ ap (λ ls. from (said_from (so.index + 1) ls)) came.is ∙ ap from (cond-false _ _ _ something)

    -- a line after which `next` makes the whole of what is left
    pub line_read : says_nothing (trim p.1.now) ≡ false → (next : List (ℕ × List ℕ) → Y) → ((n : ℕ) (ls : List (ℕ × List ℕ)) → from ((n, trim p.1.now) ∷ ls) ≡ next ls) → SaidSoFar next whole t
    line_read something next same = record {
      index = so.index + 1;
      rest = came.more;
      count = on;
      left = came.left;
      is = said something ∙ same (so.index + 1) (said_from (so.index + 1 + 1) came.more);
    }

    -- a line that decides the whole
    pub line_wrong : says_nothing (trim p.1.now) ≡ false → (y : Y) → ((ls : List (ℕ × List ℕ)) → from ((p.0 + 1, trim p.1.now) ∷ ls) ≡ y) → whole ≡ y
    line_wrong something y same =
        said something ∙ ap (λ n. from ((n + 1, trim p.1.now) ∷ said_from (so.index + 1 + 1) came.more)) (sym (step.1 ∙ so.count)) ∙ same (said_from (so.index + 1 + 1) came.more)

-- what a line says, once `said` has passed it over or not
pub said_some : (b : Bool) (t l : List ℕ) → Some l ≡ (if b then None else Some t) → (b ≡ false) × (l ≡ t)
said_some true t l h = (cc)
said_some false t l h = (refl, cc)

pub said_none : (b : Bool) (t : List ℕ) → None ≡ (if b then None else Some t) → b ≡ true
said_none true t h = refl
said_none false t h = (cc)
