-- A flood: what is seen and queued, node by node, until every way out has been followed.
use Rattle.std.proofs.Common.{◌≡◌, ℕ, ◌+◌, ◌<◌, ◌≤◌, Bool, true, false, ◌↔◌, List, [], ◌∷◌, ◌++◌, length, get_or, set, replicate, Some, Option, sym, refl, ap, ◌∙◌, subst, inl, inr, ⊎_elim, true≢false, arith}
use Rattle.std.proofs.lemmas.Grind.{common_steps}
use Rattle.std.proofs.lemmas.List.Sums.{count_by-le-length}
use Rattle.std.proofs.lemmas.Bool.{cases_eq}
use Rattle.paths.specs.declared.node.Node.{Node}
use Rattle.paths.specs.Net.{Net, In, tabled}
use Rattle.search.specs.Reach.{Reaches, itself, onward, Reached, Tells}
use Rattle.search.specs.Ways.{Split, within}
use Rattle.search.specs.Flood.{is_seen, Queued, Added}
use Rattle.search.proofs.Counting.{count_room}
use Rattle.search.proofs.Listing.{all_listed}
use Rattle.search.proofs.Reaching.{ways_below, reaches_below}

seen_below : (seen : List Bool) (n : ℕ) → is_seen seen n → n < length seen
seen_below seen n s = grind (arith, common_steps)

-- the starts below i have been added, and nothing else
pub record Begun (starts seen : List Bool) (queue : List ℕ) (i : ℕ) : Type 0 where
  pub queued : Queued seen queue
  pub from : (n : ℕ) → is_seen seen n → is_seen starts n
  pub below : (n : ℕ) → n < i → is_seen starts n → is_seen seen n

none_begun : {starts : List Bool} {queue : List ℕ} (k : ℕ) → k ≡ 1024 → queue ≡ [] → Begun starts (replicate k false) queue 0
none_begun {starts} {queue} k size empty =
    let none : length queue ≡ 0 = ap length empty in
    let unseen : (n : ℕ) → get_or (replicate k false) n false ≡ false = λ n. grind (arith, common_steps) in
    record {
      queued = record {
        sized = grind (arith, common_steps);
        filled = grind (arith, common_steps);
        listed = λ p h. absurd (omega arith);
        found = λ n s. absurd (cc (unseen n));
      };
      from = λ n s. absurd (cc (unseen n));
      below = λ n h. absurd (omega arith);
    }

pub begins : {starts seen : List Bool} {queue : List ℕ} → seen ≡ replicate 1024 false → queue ≡ [] → Begun starts seen queue 0
begins {starts} {seen} {queue} unseen empty = subst (λ (xs : List Bool). Begun starts xs queue 0) (sym unseen) (none_begun 1024 refl empty)

-- so what those seen reach, the starts reach
pub tells_starts : {g : Net} {starts seen : List Bool} {queue : List ℕ} {i : ℕ} (table : List Bool) → Begun starts seen queue i
    → length starts ≤ i → Tells table (Reached g seen) → Tells table (Reached g starts)
tells_starts {starts = starts} {i = i} table B end told n h = (
  λ s. let R = (told n h).0 s in record { start = R.start; chosen = B.from R.start R.chosen; reaches = R.reaches },
  λ R.
      let lt : R.start < i = omega (arith, seen_below starts R.start R.chosen) in
      (told n h).1 (record { start = R.start; chosen = B.below R.start lt R.chosen; reaches = R.reaches }),
)

-- a node seen and queued
module _ {seen : List Bool} {queue : List ℕ} (Q : Queued seen queue) where
  at_most : length queue ≤ 1024
  at_most = omega (arith, count_by-le-length (λ b. b) seen, Q.filled, Q.sized)

  module _ {u : ℕ} (below : u < 1024) (unseen : get_or seen u false ≡ false) where
    pub room : length queue < 1024
    room = omega (arith, count_room (λ b. b) false seen u true (omega (arith, Q.sized)) unseen refl, Q.filled, Q.sized)

    put : Queued (set seen u true) (queue ++ u ∷ [])
    put =
        let in_table : u < length seen = omega (arith, Q.sized) in
        record {
          sized = grind (arith, common_steps, Q.sized);
          filled = grind (arith, common_steps, Q.filled);
          listed = λ p h. grind (arith, common_steps, Q.listed p);
          found = λ n s. all_listed queue u n (⊎_elim inl (λ (ne : n ≡ u → ⊥). inr (Q.found n (grind (arith, common_steps)))) (cases_eq n u));
        }

    pub added : {way : Option ℕ} {queue' : List ℕ} → way ≡ Some u → queue' ≡ queue ++ u ∷ [] → Added seen (set seen u true) queue queue' way
    added {way} {queue'} taken is =
        let in_table : u < length seen = omega (arith, Q.sized) in
        subst (λ (q : List ℕ). Added seen (set seen u true) queue q way) (sym is)
        (record {
          queued = put;
          still = λ n s. grind (arith, common_steps);
          new = λ n s. ⊎_elim
              (λ (e : n ≡ u). inr (taken ∙ ap Some (sym e)))
              (λ (ne : n ≡ u → ⊥). inl (grind (arith, common_steps)))
              (cases_eq n u);
          there = λ t e. grind (arith, common_steps);
          longer = grind (arith, common_steps);
          kept = λ p h. grind (arith, common_steps);
        })

-- the ways out of the first p nodes of the queue have been followed
pub record Spreading (g : Net) (starts seen : List Bool) (queue : List ℕ) (p : ℕ) : Type 0 where
  pub queued : Queued seen queue
  pub begun : (n : ℕ) → is_seen starts n → is_seen seen n
  pub from : (n : ℕ) → is_seen seen n → Reached g starts n
  pub gone : (q t : ℕ) → q < p → In t (g.ways (get_or queue q 0)) → t < 1024 → is_seen seen t

pub spreads : {g : Net} {seen : List Bool} {queue : List ℕ} → Queued seen queue → Spreading g seen seen queue 0
spreads Q = record {
  queued = Q;
  begun = λ n s. s;
  from = λ n s. record { start = n; chosen = s; reaches = itself };
  gone = λ q t h. absurd (omega arith);
}

-- the next node of the queue, and its two ways out
module _ {g : Net} {starts seen : List Bool} {queue : List ℕ} {p n : ℕ} (F : Spreading g starts seen queue p) (inside : p < length queue) (next : n ≡ get_or queue p 0) where
  next_seen : is_seen seen n
  next_seen = subst (is_seen seen) (sym next) (F.queued.listed p inside)

  pub next_below : n < 1024
  next_below = omega (arith, seen_below seen n next_seen, F.queued.sized)

  module _ {x y : Option ℕ} {seen₁ seen₂ : List Bool} {queue₁ queue₂ : List ℕ} (split : Split (g.ways n) x y)
      (A : Added seen seen₁ queue queue₁ x) (B : Added seen₁ seen₂ queue₁ queue₂ y) where
    step : (t : ℕ) → In t (g.ways n) → Reached g starts t
    step t s = let R = F.from n next_seen in record { start = R.start; chosen = R.chosen; reaches = onward R.reaches s }

    kept_queue : (q : ℕ) → q < length queue → get_or queue₂ q 0 ≡ get_or queue q 0
    kept_queue q h = B.kept q (omega (arith, A.longer)) ∙ A.kept q h

    pub goes_on : Spreading g starts seen₂ queue₂ (p + 1)
    goes_on = record {
      queued = B.queued;
      begun = λ m s. B.still m (A.still m (F.begun m s));
      from = λ m s. ⊎_elim
          (λ (s₁ : is_seen seen₁ m). ⊎_elim (F.from m) (λ (e : x ≡ Some m). step m (split.first m e).0) (A.new m s₁))
          (λ (e : y ≡ Some m). step m (split.second m e).0)
          (B.new m s);
      gone = λ q t h s lt. ⊎_elim
          (λ (e : q ≡ p).
          let is : get_or queue₂ q 0 ≡ n = kept_queue q (omega arith) ∙ ap (λ (k : ℕ). get_or queue k 0) e ∙ sym next in
          ⊎_elim
          (λ (f : x ≡ Some t). B.still t (A.there t f))
          (λ (f : y ≡ Some t). B.there t f)
          (split.all t (subst (λ (m : ℕ). In t (g.ways m)) is s) lt))
          (λ (ne : q ≡ p → ⊥).
          B.still t (A.still t (F.gone q t (omega arith) (subst (λ (m : ℕ). In t (g.ways m)) (kept_queue q (omega arith)) s) lt)))
          (cases_eq q p);
    }

-- the queue is at its end
pub ends : {g : Net} {starts seen : List Bool} {queue : List ℕ} {p : ℕ} → Spreading g starts seen queue p → 1024 ≤ p → length queue ≤ p
ends F h = omega (arith, at_most F.queued)

pub told : (nodes : List Node) {starts seen : List Bool} {queue : List ℕ} {p : ℕ} → length nodes ≡ 1024
    → Spreading (tabled nodes) starts seen queue p → length queue ≤ p → Tells seen (Reached (tabled nodes) starts)
told nodes {starts} {seen} {queue} {p} size F end n lt = (F.from n, λ R. all R.start n R.chosen R.reaches lt)
  where
    all : (s t : ℕ) → is_seen starts s → Reaches (tabled nodes) s t → t < 1024 → is_seen seen t
    all s t chosen itself h = F.begun s chosen
    all s t chosen (onward {m} r k) h =
        let m_lt : m < 1024 = omega (arith, ways_below nodes m t k) in
        let L = F.queued.found m (all s m chosen r m_lt) in
        F.gone L.0 t (omega (arith, L.1)) (subst (λ (x : ℕ). In t ((tabled nodes).ways x)) (sym L.2) k) h

-- what a flood of one start alone sees, that start reaches
pub reached_reaches : (nodes : List Node) (start k : ℕ) {none seen : List Bool} {queue queue' : List ℕ} {way : Option ℕ} → length nodes ≡ 1024
    → none ≡ replicate k false → way ≡ within start → Added none seen queue queue' way
    → (n : ℕ) → n < 1024 → Reached (tabled nodes) seen n ↔ Reaches (tabled nodes) start n
reached_reaches nodes start k {none} {seen} size unseen one A n h = (λ R. subst (λ (s : ℕ). Reaches (tabled nodes) s n) (the_start R.start R.chosen) R.reaches, begin)
  where
    within_is : {s : ℕ} → within start ≡ Some s → s ≡ start
    within_is e = grind arith

    within_below : start < 1024 → within start ≡ Some start
    within_below h = grind arith

    the_start : (s : ℕ) → is_seen seen s → s ≡ start
    the_start s chosen = ⊎_elim
        (λ (z : is_seen none s).
        let e : get_or (replicate k false) s false ≡ false = grind (arith, common_steps) in
        absurd (true≢false (sym z ∙ ap (λ (xs : List Bool). get_or xs s false) unseen ∙ e)))
        (λ e. within_is (sym one ∙ e))
        (A.new s chosen)

    begin : Reaches (tabled nodes) start n → Reached (tabled nodes) seen n
    begin r =
        let b : start < 1024 = omega (arith, reaches_below nodes start n r (omega arith)) in
        record { start = start; chosen = A.there start (one ∙ within_below b); reaches = r }
