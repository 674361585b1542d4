-- A table that equals the list of a rule's answers, which one comparison computes, has the rule's answer at each entry.
use Rattle.std.proofs.Common.{◌≡◌, ℕ, ◌<◌, List, map, get_or, ap, ◌∙◌, zero-add}
use Rattle.std.specs.List.{range_with_len}
use Rattle.std.proofs.lemmas.List.FromFn.{get_or-map-range_with_len}

pub carried : {A : Type 0} (rule : ℕ → A) (n : ℕ) (table : List A) (d : A) → table ≡ map rule (range_with_len 0 n)
    → (k : ℕ) → k < n → get_or table k d ≡ rule k
carried rule n table d same k h = ap (λ xs. get_or xs k d) same ∙ get_or-map-range_with_len rule 0 n k k d h (zero-add k)
