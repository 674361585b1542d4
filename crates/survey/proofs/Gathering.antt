-- Two columns joined stand for the moments of both.
use Rattle.std.proofs.Common.{◌≡◌, ℕ, ◌+◌, ◌<◌, ◌≤◌, min, max, Bool, List, [], ◌∷◌, ◌++◌, length, sym, ◌∙◌, arith, inl, inr, ⊎_elim, length-append}
use Rattle.std.proofs.lemmas.Bool.{cases_lt}
use Rattle.std.proofs.lemmas.List.Elements.{All-append, All-weaker}
use Rattle.paths.specs.Net.{In}
use Rattle.survey.specs.declared.moment.Event.{Event}
use Rattle.survey.specs.declared.moment.Moment.{Moment}
use Rattle.survey.specs.declared.column.Column.{Column}
use Rattle.survey.specs.Moment.{is_saved, is_fallen, is_cut}
use Rattle.survey.specs.Column.{capped, counted, Met, Gathers, joined}

capped_sum : (a b n x y : ℕ) → x ≡ capped a → y ≡ capped b → n ≡ a + b → capped (x + y) ≡ capped n
capped_sum a b n x y first second sum = omega arith

counted-append : (p : Event → Bool) (xs ys : List Moment) → counted p (xs ++ ys) ≡ counted p xs + counted p ys
counted-append p [] ys = omega arith
counted-append p (m ∷ xs) ys = grind (arith, counted-append p xs ys)

in_first : (m : Moment) (xs ys : List Moment) → In m xs → In m (xs ++ ys)
in_first m [] ys h = absurd h
in_first m (x ∷ xs) ys h = ⊎_elim (λ e. inl e) (λ later. inr (in_first m xs ys later)) h

in_second : (m : Moment) (xs ys : List Moment) → In m ys → In m (xs ++ ys)
in_second m [] ys h = h
in_second m (x ∷ xs) ys h = inr (in_second m xs ys h)

met_first : (n k : ℕ) (xs ys : List Moment) → k ≡ n → Met n xs → Met k (xs ++ ys)
met_first n k xs ys same met = (met.0, in_first met.0 xs ys met.1, met.2 ∙ sym same)

met_second : (n k : ℕ) (xs ys : List Moment) → k ≡ n → Met n ys → Met k (xs ++ ys)
met_second n k xs ys same met = (met.0, in_second met.0 xs ys met.1, met.2 ∙ sym same)

met_least : (a b : ℕ) (xs ys : List Moment) → Met a xs → Met b ys → Met (min a b) (xs ++ ys)
met_least a b xs ys first second =
    ⊎_elim
    (λ (lower : a < b). met_first a (min a b) xs ys (omega arith) first)
    (λ (upper : b ≤ a). met_second b (min a b) xs ys (omega arith) second)
    (cases_lt a b)

met_most : (a b : ℕ) (xs ys : List Moment) → Met a xs → Met b ys → Met (max a b) (xs ++ ys)
met_most a b xs ys first second =
    ⊎_elim
    (λ (lower : a < b). met_second b (max a b) xs ys (omega arith) second)
    (λ (upper : b ≤ a). met_first a (max a b) xs ys (omega arith) first)
    (cases_lt a b)

pub gathers_joined : (c d : Column) (xs ys : List Moment) → Gathers c xs → Gathers d ys → Gathers (joined c d) (xs ++ ys)
gathers_joined c d xs ys g h =
    record {
      moments = capped_sum (length xs) (length ys) (length (xs ++ ys)) c.moments d.moments g.moments h.moments (length-append xs ys);
      least =
          All-append (λ m. min c.least d.least ≤ m.charge) xs ys
          (All-weaker (λ m. c.least ≤ m.charge) (λ m. min c.least d.least ≤ m.charge) (λ m le. omega arith) xs g.least)
          (All-weaker (λ m. d.least ≤ m.charge) (λ m. min c.least d.least ≤ m.charge) (λ m le. omega arith) ys h.least);
      least_met = met_least c.least d.least xs ys g.least_met h.least_met;
      most =
          All-append (λ m. m.charge ≤ max c.most d.most) xs ys
          (All-weaker (λ m. m.charge ≤ c.most) (λ m. m.charge ≤ max c.most d.most) (λ m le. omega arith) xs g.most)
          (All-weaker (λ m. m.charge ≤ d.most) (λ m. m.charge ≤ max c.most d.most) (λ m le. omega arith) ys h.most);
      most_met = met_most c.most d.most xs ys g.most_met h.most_met;
      saves = capped_sum (counted is_saved xs) (counted is_saved ys) (counted is_saved (xs ++ ys)) c.saves d.saves g.saves h.saves (counted-append is_saved xs ys);
      falls = capped_sum (counted is_fallen xs) (counted is_fallen ys) (counted is_fallen (xs ++ ys)) c.falls d.falls g.falls h.falls (counted-append is_fallen xs ys);
      cuts = capped_sum (counted is_cut xs) (counted is_cut ys) (counted is_cut (xs ++ ys)) c.cuts d.cuts g.cuts h.cuts (counted-append is_cut xs ys);
    }
