-- What `strip_prefix` gives at a text.
use Rattle.std.proofs.Common.{◌≡◌, ℕ, List, drop, nat_eq, true, false, Option, Some, None, Bor, MatchOption, sym, ap, subst, ◌∙◌}
use Rattle.std.proofs.lemmas.Bool.{cond-true, cond-false}
use Rattle.std.proofs.lemmas.Str.Pattern.{starts_text}
use Rattle.std.specs.Str.{IsCharBoundary}
use Rattle.std.specs.List.{starts_with}
use Rattle.std.specs.Option.{option_copied}
use Rattle.std.specs.Str.Pattern.{FindsTextPrefix, StripsPrefix}
use Rattle.inputs.specs.Text.{behind}

pub stripped : (p s : List ℕ) (r : Option (Bor (List ℕ))) → MatchOption r (FindsTextPrefix p s None) (λ x. StripsPrefix (FindsTextPrefix p) s x.now) → option_copied r ≡ behind p s
stripped p s None h = sym (cond-false _ _ _ (sym (starts_text false p s h)))
stripped p s (Some x) h =
    let starts : true ≡ starts_with nat_eq s p = starts_text true p s (h.0, h.1, subst (IsCharBoundary s) (sym h.1.0) h.1.2) in
    ap Some h.2 ∙ ap (λ k. Some (drop k s)) h.1.0 ∙ sym (cond-true _ _ _ (sym starts))
