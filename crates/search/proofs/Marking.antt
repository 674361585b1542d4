-- The marks, the path and the order of a search: a node opened, a node done, a visit from its beginning to its end.
use Rattle.std.proofs.Common.{◌≡◌, ℕ, zero, suc, ◌+◌, ◌-◌, ◌<◌, true, ◌⊎◌, List, [], ◌∷◌, ◌++◌, length, get_or, set, Some, None, Ok, Err, Option, Result, sym, refl, ap, ◌∙◌, subst, inl, inr, ⊎_elim, arith}
use Rattle.std.proofs.lemmas.Grind.{common_steps}
use Rattle.std.proofs.lemmas.Bool.{cases_eq}
use Rattle.paths.specs.Net.{Net, In}
use Rattle.search.specs.declared.order.Looping.{Looping}
use Rattle.search.specs.declared.order.Mark.{Mark}
use Rattle.search.specs.declared.order.Mark.TheVariants.{New, Open, Done}
use Rattle.search.specs.Reach.{Reaches, itself, onward}
use Rattle.search.specs.Ways.{Split}
use Rattle.search.specs.Visit.{mark_at, is_open, is_done, news, Sound, Path, Rests, Marked, NextWay, LoopAhead}
use Rattle.search.proofs.Counting.{count_room, count_none}
use Rattle.search.proofs.Listing.{still_listed, all_listed}

is_open_Open : (y : Mark) → is_open y ≡ true → y ≡ Open
is_open_Open New e = cc
is_open_Open Open e = refl
is_open_Open Done e = cc

-- where the first way out of a node comes to no New node, the second is what the node comes to
pub second_next : (g : Net) (marks : List Mark) (n : ℕ) {x y : Option ℕ} → Split (g.ways n) x y → Marked marks x (Ok None)
    → (r : Result (Option ℕ) Looping) → Marked marks y r → NextWay g marks n r
second_next g marks n split done (Ok (Some t)) m = let s = split.second t m.0 in (s.0, s.1, m.1)
second_next g marks n split done (Ok None) m = λ t i lt. ⊎_elim (done t) (m t) (split.all t i lt)
second_next g marks n split done (Err e) m = (m.0, (split.second m.0 m.1).0, m.2)

-- a New node, opened at the end of the path
module _ (g : Net) (marks : List Mark) (path order : List ℕ) (t : ℕ) (S : Sound g marks order) (P : Path g marks path)
    (new : mark_at marks t ≡ New) (inside : t < 1024) where
  below : t < length marks
  below = omega (arith, inside, S.sized)

  pub fewer : news (set marks t Open) + 1 ≡ news marks
  fewer = let h = below in grind (arith, common_steps)

  pub path_room : length path < 1024
  path_room = omega (arith, count_room is_open New marks t Open below (ap is_open new) refl, P.filled, S.sized)

  opened_sound : Sound g (set marks t Open) order
  opened_sound =
      let h = below in
      record {
        sized = grind (arith, common_steps, S.sized);
        filled = grind (arith, common_steps, S.filled);
        after = S.after;
        once = S.once;
        listed = λ p lt. grind (arith, common_steps, S.listed p lt);
        found = λ n d. S.found n (grind (arith, common_steps));
      }

  opened_path : ((p : ℕ) → p + 1 ≡ length path → In t (g.ways (get_or path p 0))) → Path g (set marks t Open) (path ++ t ∷ [])
  opened_path step =
      let h = below in
      record {
        filled = grind (arith, common_steps, P.filled);
        steps = λ p lt. ⊎_elim
            (λ (is : p + 1 ≡ length path).
            let e : get_or (path ++ t ∷ []) (p + 1) 0 ≡ t = grind (arith, common_steps) in
            let f : get_or (path ++ t ∷ []) p 0 ≡ get_or path p 0 = grind (arith, common_steps) in
            subst (λ (x : ℕ). In (get_or (path ++ t ∷ []) (p + 1) 0) (g.ways x)) (sym f) (subst (λ (x : ℕ). In x (g.ways (get_or path p 0))) (sym e) (step p is)))
            (λ (ne : p + 1 ≡ length path → ⊥).
            let h : p + 1 < length path = grind (arith, common_steps) in
            let e : get_or (path ++ t ∷ []) (p + 1) 0 ≡ get_or path (p + 1) 0 = grind (arith, common_steps) in
            let f : get_or (path ++ t ∷ []) p 0 ≡ get_or path p 0 = grind (arith, common_steps) in
            subst (λ (x : ℕ). In (get_or (path ++ t ∷ []) (p + 1) 0) (g.ways x)) (sym f) (subst (λ (x : ℕ). In x (g.ways (get_or path p 0))) (sym e) (P.steps p h)))
            (cases_eq (p + 1) (length path));
        once = λ p q l lt e. grind (arith, common_steps, P.listed p, P.once p q l);
        listed = λ p lt. grind (arith, common_steps, P.listed p);
        found = λ n o. all_listed path t n (⊎_elim inl (λ (ne : n ≡ t → ⊥). inr (P.found n (grind (arith, common_steps)))) (cases_eq n t));
      }

-- the node at the end of the path, all of whose ways out are Done, done itself
module _ (g : Net) (marks : List Mark) (rest order : List ℕ) (u : ℕ) (S : Sound g marks order) (P : Path g marks (rest ++ u ∷ [])) where
  is_open_last : mark_at marks u ≡ Open
  is_open_last =
      let l : length (rest ++ u ∷ []) ≡ length rest + 1 = grind (arith, common_steps) in
      let e : get_or (rest ++ u ∷ []) (length rest) 0 ≡ u = grind (arith, common_steps) in
      ap (mark_at marks) (sym e) ∙ P.listed (length rest) (omega arith)

  below_last : u < length marks
  below_last = let o = is_open_last in grind (arith, common_steps)

  pub order_room : length order < 1024
  order_room = omega (arith, count_room is_done New marks u Done below_last (ap is_done is_open_last) refl, S.filled, S.sized)

  same_news : news (set marks u Done) ≡ news marks
  same_news = let h = below_last in let o = is_open_last in grind (arith, common_steps)

  closed_path : Path g (set marks u Done) rest
  closed_path =
      let h = below_last in
      let o = is_open_last in
      let l : length (rest ++ u ∷ []) ≡ length rest + 1 = grind (arith, common_steps) in
      let last : get_or (rest ++ u ∷ []) (length rest) 0 ≡ u = grind (arith, common_steps) in
      let same : (p : ℕ) → p < length rest → get_or (rest ++ u ∷ []) p 0 ≡ get_or rest p 0 = λ p lt. grind (arith, common_steps) in
      record {
        filled = grind (arith, common_steps, P.filled);
        steps = λ p lt.
            subst (λ (x : ℕ). In (get_or rest (p + 1) 0) (g.ways x)) (same p (omega arith))
            (subst (λ (x : ℕ). In x (g.ways (get_or (rest ++ u ∷ []) p 0))) (same (p + 1) lt) (P.steps p (omega (arith, l))));
        once = λ p q lt lq e. P.once p q lt (omega (arith, l)) (same p (omega arith) ∙ e ∙ sym (same q lq));
        listed = λ p lt.
            let ne : get_or rest p 0 ≡ u → ⊥ = λ e. P.once p (length rest) lt (omega (arith, l)) (same p lt ∙ e ∙ sym last) in
            let was : mark_at marks (get_or rest p 0) ≡ Open = ap (mark_at marks) (sym (same p lt)) ∙ P.listed p (omega (arith, l)) in
            grind (arith, common_steps);
        found = λ n d.
            let ne : n ≡ u → ⊥ = λ e. grind (arith, common_steps) in
            let L = P.found n (grind (arith, common_steps)) in
            ⊎_elim
            (λ (is : L.0 ≡ length rest). absurd (ne (sym L.2 ∙ ap (λ (p : ℕ). get_or (rest ++ u ∷ []) p 0) is ∙ last)))
            (λ (not : L.0 ≡ length rest → ⊥).
            let lt : L.0 < length rest = grind (arith, common_steps, L.1, l) in
            (L.0, lt, sym (same L.0 lt) ∙ L.2))
            (cases_eq L.0 (length rest));
      }

  module _ (ways : (t : ℕ) → In t (g.ways u) → t < 1024 → mark_at marks t ≡ Done) where
    closed_sound : Sound g (set marks u Done) (order ++ u ∷ [])
    closed_sound =
        let h = below_last in
        let o = is_open_last in
        record {
          sized = grind (arith, common_steps, S.sized);
          filled = grind (arith, common_steps, S.filled);
          after = λ p t lt s t_lt. ⊎_elim
              (λ (is : p ≡ length order).
              let e : get_or (order ++ u ∷ []) p 0 ≡ u = grind (arith, common_steps) in
              still_listed order u (length order) p t (omega arith) (omega arith) (S.found t (ways t (subst (λ (x : ℕ). In t (g.ways x)) e s) t_lt)))
              (λ (ne : p ≡ length order → ⊥).
              let h : p < length order = grind (arith, common_steps) in
              let e : get_or (order ++ u ∷ []) p 0 ≡ get_or order p 0 = grind (arith, common_steps) in
              still_listed order u p p t (omega arith) (omega arith) (S.after p t h (subst (λ (x : ℕ). In t (g.ways x)) e s) t_lt))
              (cases_eq p (length order));
          once = λ p q l lt e. grind (arith, common_steps, S.listed p, S.once p q l);
          listed = λ p lt. grind (arith, common_steps, S.listed p);
          found = λ n d. all_listed order u n (⊎_elim inl (λ (ne : n ≡ u → ⊥). inr (S.found n (grind (arith, common_steps)))) (cases_eq n u));
        }

-- along a path, each node reaches those after it
along : (g : Net) (marks : List Mark) (path : List ℕ) → Path g marks path → (k p : ℕ) → p + k < length path
    → Reaches g (get_or path p 0) (get_or path (p + k) 0)
along g marks path P zero p lt = subst (λ (x : ℕ). Reaches g (get_or path p 0) (get_or path x 0)) (omega arith) itself
along g marks path P (suc k) p lt =
    let e : p + k + 1 ≡ p + suc k = omega arith in
    subst (λ (x : ℕ). Reaches g (get_or path p 0) (get_or path x 0)) e
    (onward (along g marks path P k p (omega arith)) (P.steps (p + k) (omega arith)))

-- a visit of a node that is under way
pub record Visiting (g : Net) (was : List Mark) (start : ℕ) (marks : List Mark) (path order : List ℕ) : Type 0 where
  pub sound : Sound g marks order
  pub on_path : Path g marks path
  pub seen : mark_at marks start ≡ New → ⊥
  pub still_done : (n : ℕ) → mark_at was n ≡ Done → mark_at marks n ≡ Done
  pub open_from : (n : ℕ) → mark_at marks n ≡ Open → Reaches g start n
  pub done_from : (n : ℕ) → mark_at marks n ≡ Done → (mark_at was n ≡ Done) ⊎ Reaches g start n

-- a visit begins with its node
pub visit_begins : {g : Net} {marks : List Mark} {path order path' : List ℕ} (t : ℕ) → Rests g marks path order → mark_at marks t ≡ New → t < 1024
    → path' ≡ path ++ t ∷ [] → Visiting g marks t (set marks t Open) path' order
visit_begins {g} {marks} {path} {order} {path'} t R new inside e = record {
  sound = opened_sound g marks [] order t R.sound nothing new inside;
  on_path = subst (Path g (set marks t Open)) (sym alone) (opened_path g marks [] order t R.sound nothing new inside (λ p h. absurd (omega arith)));
  seen = λ h. let b = below g marks [] order t R.sound nothing new inside in grind (arith, common_steps);
  still_done = λ n d. grind (arith, common_steps);
  open_from = λ n o. ⊎_elim
      (λ (is : n ≡ t). subst (Reaches g t) (sym is) itself)
      (λ (ne : n ≡ t → ⊥). absurd (R.none_open n (grind (arith, common_steps))))
      (cases_eq n t);
  done_from = λ n d. inl (grind (arith, common_steps));
}
  where
    alone : path' ≡ [] ++ t ∷ []
    alone = e ∙ ap (λ (x : List ℕ). x ++ t ∷ []) R.empty

    none : (n : ℕ) → is_open (mark_at marks n) ≡ true → ⊥
    none n o = R.none_open n (is_open_Open (mark_at marks n) o)

    nothing : Path g marks []
    nothing = record {
      filled = sym (count_none is_open New marks none);
      steps = λ p lt. absurd (omega arith);
      once = λ p q l lt ee. absurd (omega arith);
      listed = λ p lt. absurd (omega arith);
      found = λ n o. absurd (R.none_open n o);
    }

module _ {g : Net} {was : List Mark} {start : ℕ} {marks : List Mark} {path order : List ℕ} (V : Visiting g was start marks path order) where
  module _ (rest : List ℕ) (u : ℕ) (apart : path ≡ rest ++ u ∷ []) where
    whole : Path g marks (rest ++ u ∷ [])
    whole = subst (Path g marks) apart V.on_path

    pub last_inside : u < 1024
    last_inside = omega (arith, below_last g marks rest order u V.sound whole, V.sound.sized)

    last_open : mark_at marks u ≡ Open
    last_open = is_open_last g marks rest order u V.sound whole

    -- it goes on by a way out to a New node,
    pub visit_goes_on : {t : ℕ} {path' : List ℕ} → NextWay g marks u (Ok (Some t)) → path' ≡ (rest ++ u ∷ []) ++ t ∷ []
        → Visiting g was start (set marks t Open) path' order
    visit_goes_on {t} {path'} way e =
        let new = way.2 in
        let b = below g marks (rest ++ u ∷ []) order t V.sound whole way.2 way.1 in
        record {
          sound = opened_sound g marks (rest ++ u ∷ []) order t V.sound whole way.2 way.1;
          on_path = subst (Path g (set marks t Open)) (sym e)
              (opened_path g marks (rest ++ u ∷ []) order t V.sound whole way.2 way.1
              (λ p is.
              let f : get_or (rest ++ u ∷ []) p 0 ≡ u = grind (arith, common_steps) in
              subst (λ (x : ℕ). In t (g.ways x)) (sym f) way.0));
          seen = λ h. V.seen (grind (arith, common_steps));
          still_done = λ n d. let h = V.still_done n d in grind (arith, common_steps);
          open_from = λ n o. ⊎_elim
              (λ (is : n ≡ t). subst (Reaches g start) (sym is) (onward (V.open_from u last_open) way.0))
              (λ (ne : n ≡ t → ⊥). V.open_from n (grind (arith, common_steps)))
              (cases_eq n t);
          done_from = λ n d. V.done_from n (grind (arith, common_steps));
        }

    -- meets an Open node again, which lies on a loop,
    pub visit_loops : {e : Looping} → NextWay g marks u (Err e) → LoopAhead g start
    visit_loops met =
        let t = met.0 in
        let L = V.on_path.found t met.2 in
        let l : length path ≡ length rest + 1 = grind (arith, common_steps) in
        let last : get_or path (L.0 + (length rest - L.0)) 0 ≡ u = grind (arith, common_steps, L.1) in
        record {
          node = t;
          reaches = V.open_from t met.2;
          on_loop = record {
            before = u;
            reaches = subst (λ (x : ℕ). Reaches g x u) L.2
                (subst (Reaches g (get_or path L.0 0)) last (along g marks path V.on_path (length rest - L.0) L.0 (omega (arith, L.1))));
            last = met.1;
          };
        }

    -- or is done with the node
    pub visit_leaves : {order' : List ℕ} → NextWay g marks u (Ok None) → order' ≡ order ++ u ∷ []
        → Visiting g was start (set marks u Done) rest order'
    visit_leaves {order'} ways e =
        let b = below_last g marks rest order u V.sound whole in
        let o = last_open in
        record {
          sound = subst (Sound g (set marks u Done)) (sym e) (closed_sound g marks rest order u V.sound whole ways);
          on_path = closed_path g marks rest order u V.sound whole;
          seen = λ h. V.seen (grind (arith, common_steps));
          still_done = λ n d. let h = V.still_done n d in grind (arith, common_steps);
          open_from = λ n d. V.open_from n (grind (arith, common_steps));
          done_from = λ n d. ⊎_elim
              (λ (is : n ≡ u). inr (subst (Reaches g start) (sym is) (V.open_from u o)))
              (λ (ne : n ≡ u → ⊥). V.done_from n (grind (arith, common_steps)))
              (cases_eq n u);
        }

    pub open_room : {t : ℕ} → NextWay g marks u (Ok (Some t)) → length rest + 1 < 1024
    open_room {t} way =
        let r = path_room g marks (rest ++ u ∷ []) order t V.sound whole way.2 way.1 in
        let l : length (rest ++ u ∷ []) ≡ length rest + 1 = grind (arith, common_steps) in
        omega arith

    pub done_room : length order < 1024
    done_room = order_room g marks rest order u V.sound whole

    -- a node that is left was not New
    pub leaves_less : news (set marks u Done) ≡ news marks
    leaves_less = same_news g marks rest order u V.sound whole
