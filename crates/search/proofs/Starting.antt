-- A search from one start after another, and what the order then holds.
use Rattle.std.proofs.Common.{◌≡◌, ℕ, zero, suc, ◌+◌, ◌<◌, ◌≤◌, Bool, false, true, List, [], length, get_or, replicate, sym, refl, ap, ◌∙◌, subst, arith}
use Rattle.std.proofs.lemmas.Grind.{common_steps}
use Rattle.paths.specs.declared.node.Node.{Node}
use Rattle.paths.specs.Net.{Net, In, Listed, tabled}
use Rattle.search.specs.declared.order.Mark.{Mark}
use Rattle.search.specs.declared.order.Mark.TheVariants.{New, Done}
use Rattle.search.specs.Reach.{Reaches, itself, onward, OnLoop, Reached}
use Rattle.search.specs.Visit.{mark_at, Rests}
use Rattle.search.specs.Order.{After, Sorted}
use Rattle.search.proofs.Reaching.{ways_below, loop_below}

-- the starts below i have been visited
pub record Started (g : Net) (starts : List Bool) (marks : List Mark) (path order : List ℕ) (i : ℕ) : Type 0 where
  pub rests : Rests g marks path order
  pub all : (n : ℕ) → n < i → get_or starts n false ≡ true → mark_at marks n ≡ Done
  pub from : (n : ℕ) → mark_at marks n ≡ Done → Reached g starts n

-- nothing is visited yet
pub started : {g : Net} {starts : List Bool} {marks : List Mark} {path order : List ℕ} → marks ≡ replicate 1024 New → path ≡ [] → order ≡ []
    → Started g starts marks path order 0
started {g} {starts} {marks} {path} {order} unmarked no_path empty =
    subst (λ (xs : List Mark). Started g starts xs path order 0) (sym unmarked) (go 1024 refl)
  where
    go : (k : ℕ) → k ≡ 1024 → Started g starts (replicate k New) path order 0
    go k e =
        let none : length order ≡ 0 = ap length empty in
        let new : (n : ℕ) → mark_at (replicate k New) n ≡ New = λ n. grind (arith, common_steps) in
        record {
          rests = record {
            sound = record {
              sized = grind (arith, common_steps);
              filled = grind (arith, common_steps);
              after = λ p t h s lt. absurd (omega arith);
              once = λ p q l h e. absurd (omega arith);
              listed = λ p h. absurd (omega arith);
              found = λ n d. absurd (cc (new n));
            };
            none_open = λ n d. cc (new n);
            empty = no_path;
          };
          all = λ n l w. absurd (omega arith);
          from = λ n d. absurd (cc (new n));
        }

-- in an order that holds what its nodes reach, steps go to earlier places, so none lies on a loop
module _ (nodes : List Node) (size : length nodes ≡ 1024) (order : List ℕ) (after : After (tabled nodes) order) where
  -- a step from a place leads to one before it
  before : (p m t : ℕ) → Listed order p m → p ≤ length order → In t ((tabled nodes).ways m) → t < 1024
      → (q : ℕ) × (q < p) × Listed order q t
  before p m t L h s lt =
      (L.0, L.1, after L.0 t (omega (arith, L.1)) (subst (λ (x : ℕ). In t ((tabled nodes).ways x)) (sym L.2) s) lt)

  earlier : (p n t : ℕ) → p < length order → get_or order p 0 ≡ n → Reaches (tabled nodes) n t → t < 1024 → Listed order (p + 1) t
  earlier p n t h is itself lt = (p, omega arith, is)
  earlier p n t h is (onward {m} r s) lt =
      let L = earlier p n m h is r (omega (arith, ways_below nodes m t s)) in
      let B = before (p + 1) m t L (omega arith) s lt in
      (B.2.0, omega (arith, B.1, B.2.1), B.2.2)

  off_loop : (k p n : ℕ) → p < k → p < length order → get_or order p 0 ≡ n → OnLoop (tabled nodes) n → ⊥
  off_loop zero p n lt h is l = omega arith
  off_loop (suc k) p n lt h is l =
      let L = earlier p n l.before h is l.reaches (omega (arith, ways_below nodes l.before n l.last)) in
      let B = before (p + 1) l.before n L (omega arith) l.last (omega (arith, loop_below nodes n l)) in
      off_loop k B.2.0 n (omega (arith, B.1, B.2.1)) (omega (arith, B.1, B.2.1)) B.2.2 l

pub sorted : (nodes : List Node) {starts : List Bool} {marks : List Mark} {path order : List ℕ} {i : ℕ} → length nodes ≡ 1024
    → Started (tabled nodes) starts marks path order i → length starts ≤ i → Sorted (tabled nodes) starts order
sorted nodes {starts} {marks} {path} {order} {i} size S end = record {
  after = S.rests.sound.after;
  once = S.rests.sound.once;
  exact = λ n. (λ L. let d = is_Done n L in (below n d, S.from n d), λ q. S.rests.sound.found n (reached_done n q.0 q.1));
  unlooped = λ n L.
      let lt : n < 1024 = omega (arith, loop_below nodes n L.on_loop) in
      let K = S.rests.sound.found n (reached_done n lt L.reached) in
      off_loop nodes size order S.rests.sound.after (K.0 + 1) K.0 n (omega arith) K.1 K.2 L.on_loop;
}
  where
    is_Done : (n : ℕ) → Listed order (length order) n → mark_at marks n ≡ Done
    is_Done n L = ap (mark_at marks) (sym L.2) ∙ S.rests.sound.listed L.0 L.1

    below : (n : ℕ) → mark_at marks n ≡ Done → n < 1024
    below n d = grind (arith, common_steps, S.rests.sound.sized)

    along : (s n : ℕ) → get_or starts s false ≡ true → Reaches (tabled nodes) s n → n < 1024 → mark_at marks n ≡ Done
    along s n chosen itself lt = let below : s < length starts = grind (arith, common_steps) in S.all s (omega arith) chosen
    along s n chosen (onward {m} r k) lt =
        let L = S.rests.sound.found m (along s m chosen r (omega (arith, ways_below nodes m n k))) in
        let B = before nodes size order S.rests.sound.after (length order) m n L (omega arith) k lt in
        is_Done n (B.2.0, omega (arith, B.1, B.2.1), B.2.2)

    reached_done : (n : ℕ) → n < 1024 → Reached (tabled nodes) starts n → mark_at marks n ≡ Done
    reached_done n lt r = along r.start n r.chosen r.reaches lt
