-- Walks of a sound graph: how they reach a node, and what a repeat in one is.
use Rattle.std.proofs.Common.{◌≡◌, ℕ, zero, suc, ◌<◌, ◌≤◌, Bool, true, false, cond, List, [], ◌∷◌, ◌++◌, length, sym, refl, ap, subst, inl, inr, ⊎_elim, arith}
use mathlib.Core.Path.{subst⁻¹}
use Rattle.std.proofs.lemmas.Bool.{and_parts, and_from}
use Rattle.isa.specs.declared.instruction.Role.{Role}
use Rattle.isa.specs.declared.instruction.Role.TheVariants.{Save, Idle, Exit, Other}
use Rattle.paths.specs.Net.{In}
use Rattle.walks.specs.Graph.{Graph, ending, onward, Sound}
use Rattle.walks.specs.Walk.{Reachable, first, next, Start, Chain, Ends, walk_price}
use Rattle.walks.specs.Acceptance.{Twice, Looped, Unlooped}
use Rattle.walks.specs.Reached.{near, reached}
use Rattle.walks.specs.Certified.{is_save, returns, looped, started}
use Rattle.walks.proofs.Lists.{any_sound, any_complete, Distinct, fits}
use Rattle.walks.proofs.Steps.{Steps, steps_on, last_in, twice_join, twice_on, near_sound, near_all}

cut_split : (b : Bool) (l : List ℕ) (t : ℕ) → In t (cond b [] l) → (b ≡ false) × In t l
cut_split b l t i = grind arith

distinct_of : (l : List ℕ) → ((x : ℕ) → Twice x l → ⊥) → Distinct l
distinct_of [] f = tt
distinct_of (x ∷ l) f = (λ i. f x (inl (refl, i)), distinct_of l (λ y t. f y (inr t)))

save_test : (r : Role) → is_save r ≡ true → r ≡ Save
save_test r h = grind arith

module _ (g : Graph) where
  pub onward_way : (n t : ℕ) → In t (onward g n) → In t (g.ways n)
  onward_way n t i = (cut_split (ending (g.role n)) (g.ways n) t i).1

  pub onward_goes : (n t : ℕ) → In t (onward g n) → ending (g.role n) ≡ false
  onward_goes n t i = (cut_split (ending (g.role n)) (g.ways n) t i).0

  pub way_onward : (n t : ℕ) → ending (g.role n) ≡ false → In t (g.ways n) → In t (onward g n)
  way_onward n t e i = subst⁻¹ (λ (b : Bool). In t (cond b [] (g.ways n))) e i

  steps_chain : (l : List ℕ) (a b : ℕ) → Steps (onward g) a l b → Chain g a l
  steps_chain [] a b e = tt
  steps_chain (m ∷ l) a b p = (p.0, steps_chain l m b p.1)

  pub chain_on : (l r : List ℕ) (a m : ℕ) → Steps (onward g) a l m → Chain g m r → Chain g a (l ++ r)
  chain_on [] r a m e c = subst (λ (x : ℕ). Chain g x r) (sym e) c
  chain_on (u ∷ l) r a m p c = (p.0, chain_on l r u m p.1 c)

  pub ends_on : (l r : List ℕ) (a m : ℕ) → Steps (onward g) a l m → Ends g m r → Ends g a (l ++ r)
  ends_on [] r a m e h = subst (λ (x : ℕ). Ends g x r) (sym e) h
  ends_on (u ∷ l) r a m p h = ends_on l r u m p.1 h

  -- the price of what comes after
  pub price_after : (l r : List ℕ) (a m : ℕ) → Steps (onward g) a l m → walk_price g (m ∷ r) ≤ walk_price g (a ∷ (l ++ r))
  price_after [] r a m e = let q : g.price a ≡ g.price m = ap g.price e in omega arith
  price_after (u ∷ l) r a m p = let h = price_after l r u m p.1 in omega arith

  -- what ends in a saving costs one at least
  pub ends_dear : (saving : ℕ) → ((n : ℕ) → ending (g.role n) ≡ true → saving ≤ g.price n) → (l : List ℕ) (n : ℕ) → Ends g n l
      → saving ≤ walk_price g (n ∷ l)
  ends_dear saving endings [] n e = let h = endings n e in omega arith
  ends_dear saving endings (t ∷ l) n e = let h = ends_dear saving endings l t e in omega arith

  -- a chain steps to its last node, and to each of its nodes
  pub chain_last : (l : List ℕ) (n : ℕ) → Chain g n l → (m : ℕ) × Steps (onward g) n l m
  chain_last [] n c = (n, refl)
  chain_last (t ∷ l) n c = let q = chain_last l t c.1 in (q.0, (c.0, q.1))

  chain_to : (l : List ℕ) (n x : ℕ) → Chain g n l → In x (n ∷ l) → (r : List ℕ) × Steps (onward g) n r x
  chain_to l n x c (inl e) = ([], sym e)
  chain_to [] n x c (inr i) = absurd i
  chain_to (m ∷ l) n x c (inr i) = let q = chain_to l m x c.1 i in (m ∷ q.0, (c.0, q.1))

  -- steps lead from n to x, and from x round to x
  pub record Round (n x : ℕ) : Type 0 where
    pub lead : List ℕ
    pub led : Steps (onward g) n lead x
    pub head : ℕ
    pub leaves : In head (onward g x)
    pub round : List ℕ
    pub back : Steps (onward g) head round x

  pub chain_round : (l : List ℕ) (n x : ℕ) → Chain g n l → Twice x (n ∷ l) → Round n x
  chain_round [] n x c (inl h) = absurd h.1
  chain_round [] n x c (inr t) = absurd t
  chain_round (m ∷ l) n x c (inl h) =
      let q = chain_to l m x c.1 h.1 in
      record {
        lead = [];
        led = sym h.0;
        head = m;
        leaves = subst⁻¹ (λ (y : ℕ). In m (onward g y)) h.0 c.0;
        round = q.0;
        back = q.1;
      }
  chain_round (m ∷ l) n x c (inr t) =
      let q = chain_round l m x c.1 t in
      record {
        lead = m ∷ q.lead;
        led = (c.0, q.led);
        head = q.head;
        leaves = q.leaves;
        round = q.round;
        back = q.back;
      }

  pub round_looped : (n x : ℕ) → Start g n → Round n x → Looped g x
  round_looped n x h q =
      let tail = q.head ∷ q.round in (
        n ∷ (q.lead ++ tail),
        (h, chain_on q.lead tail n x q.led (q.leaves, steps_chain q.round q.head x q.back)),
        twice_join (onward g) q.lead tail n x q.led (last_in (onward g) q.round q.head x q.back),
      )

  pub reach_on : (l : List ℕ) (a b : ℕ) → Reachable g a → Steps (onward g) a l b → Reachable g b
  reach_on [] a b r e = subst (Reachable g) e r
  reach_on (m ∷ l) a b r p = reach_on l m b (next r (onward_way a m p.0)) p.1

  reach_by : (l : List ℕ) (a b : ℕ) → Reachable g a → Steps g.ways a l b → Reachable g b
  reach_by [] a b r e = subst (Reachable g) e r
  reach_by (m ∷ l) a b r p = reach_by l m b (next r p.0) p.1

  reach_steps : (t : ℕ) → Reachable g t → (l : List ℕ) × Steps g.ways 0 l t
  reach_steps t first = ([], refl)
  reach_steps t (next {n = n} r i) = let q = reach_steps n r in (q.0 ++ (t ∷ []), steps_on g.ways q.0 (t ∷ []) 0 n t q.1 (i, refl))

  -- some walk comes to a node
  pub record Arrival (n : ℕ) : Type 0 where
    pub start : ℕ
    pub starts : Start g start
    pub way : List ℕ
    pub comes : Steps (onward g) start way n

  module _ (sound : Sound g) where
    pub reach_below : (n : ℕ) → Reachable g n → n < g.size
    reach_below n first = sound.some
    reach_below n (next {n = m} r i) = sound.inside m n (reach_below m r) i

    pub start_reached : (n : ℕ) → Start g n → Reachable g n
    start_reached n (inl e) = subst⁻¹ (Reachable g) e first
    start_reached n (inr q) =
        subst⁻¹ (Reachable g) q.3 (next q.1 (subst⁻¹ (λ (l : List ℕ). In (suc q.0) l) (sound.saves q.0 q.2) (inl refl)))

    arrive_on : (n t : ℕ) → ending (g.role n) ≡ false → Arrival n → In t (g.ways n) → Arrival t
    arrive_on n t e a i =
        record {
          start = a.start;
          starts = a.starts;
          way = a.way ++ (t ∷ []);
          comes = steps_on (onward g) a.way (t ∷ []) a.start n t a.comes (way_onward n t e i, refl);
        }

    arrive_next : (n t : ℕ) (r : Role) → g.role n ≡ r → Reachable g n → Arrival n → In t (g.ways n) → Arrival t
    arrive_next n t Save e r a i =
        let only : In t (suc n ∷ []) = subst (λ (l : List ℕ). In t l) (sound.saves n e) i in
        record { start = t; starts = inr (n, r, e, ⊎_elim (λ h. h) absurd only); way = []; comes = refl }
    arrive_next n t Exit e r a i = absurd (let none : In t [] = subst (λ (l : List ℕ). In t l) (sound.exits n e) i in none)
    arrive_next n t Idle e r a i = arrive_on n t (ap ending e) a i
    arrive_next n t Other e r a i = arrive_on n t (ap ending e) a i

    pub arrive : (n : ℕ) → Reachable g n → Arrival n
    arrive n first = record { start = 0; starts = inl refl; way = []; comes = refl }
    arrive n (next {n = m} r i) = arrive_next m n (g.role m) refl r (arrive m r) i

    pub onward_inside : (n t : ℕ) → n < g.size → In t (onward g n) → t < g.size
    onward_inside n t h i = sound.inside n t h (onward_way n t i)

    -- the tests say what they mean
    pub reached_yes : (n : ℕ) → Reachable g n → reached g n ≡ true
    reached_yes n r = let q = reach_steps n r in near_all g.ways g.size sound.inside 0 n q.0 sound.some q.1

    pub reached_is : (n : ℕ) → reached g n ≡ true → Reachable g n
    reached_is n h = let q = near_sound g.ways n g.size 0 h in reach_by q.0 0 n first q.1

    pub looped_reached : (x : ℕ) → Looped g x → Reachable g x × Round x x
    looped_reached x ([], w, t) = absurd t
    looped_reached x (n ∷ l, w, t) =
        let q = chain_round l n x w.1 t in (
          reach_on q.lead n x (start_reached n w.0) q.led,
          record { lead = []; led = refl; head = q.head; leaves = q.leaves; round = q.round; back = q.back },
        )

    pub reached_looped : (x : ℕ) → Reachable g x → Round x x → Looped g x
    reached_looped x r q =
        let a = arrive x r in
        round_looped a.start x a.starts
        (record { lead = a.way; led = a.comes; head = q.head; leaves = q.leaves; round = q.round; back = q.back })

    pub looped_yes : (x : ℕ) → Looped g x → looped g x ≡ true
    looped_yes x w =
        let p = looped_reached x w in
        let q = p.1 in
        and_from (reached g x) (returns g x) (reached_yes x p.0)
        (any_complete (near (onward g) x g.size) (onward g x) q.head q.leaves
        (near_all (onward g) g.size onward_inside q.head x q.round (onward_inside x q.head (reach_below x p.0) q.leaves) q.back))

    pub looped_is : (x : ℕ) → looped g x ≡ true → Looped g x
    looped_is x h =
        let p = and_parts (reached g x) (returns g x) h in
        let q = any_sound (near (onward g) x g.size) (onward g x) p.1 in
        let b = near_sound (onward g) x g.size q.0 q.2 in
        reached_looped x (reached_is x p.0) (record { lead = []; led = refl; head = q.0; leaves = q.1; round = b.0; back = b.1 })

    pub started_is : (n : ℕ) → started g n ≡ true → Start g n
    started_is zero h = inl refl
    started_is (suc n) h =
        let p = and_parts (is_save (g.role n)) (reached g n) h in inr (n, reached_is n p.1, save_test (g.role n) p.0, refl)

    pub started_yes : (n : ℕ) → Start g n → started g n ≡ true
    started_yes n (inl e) = subst⁻¹ (λ (x : ℕ). started g x ≡ true) e refl
    started_yes n (inr q) =
        subst⁻¹ (λ (x : ℕ). started g x ≡ true) q.3
        (and_from (is_save (g.role q.0)) (reached g q.0) (ap is_save q.2) (reached_yes q.0 q.1))

    -- where no walk holds a node twice, no list from a reachable node does
    chain_distinct : Unlooped g → (n : ℕ) (l : List ℕ) → Reachable g n → Chain g n l → Distinct (n ∷ l)
    chain_distinct unlooped n l h c =
        let v = arrive n h in
        distinct_of (n ∷ l)
        (λ x t. unlooped x (v.start ∷ (v.way ++ l), (v.starts, chain_on v.way l v.start n v.comes c), twice_on (onward g) v.way l v.start n x v.comes t))

    chain_below : (l : List ℕ) (n x : ℕ) → n < g.size → Chain g n l → In x (n ∷ l) → x < g.size
    chain_below l n x h c (inl e) = omega arith
    chain_below [] n x h c (inr i) = absurd i
    chain_below (m ∷ l) n x h c (inr i) = chain_below l m x (onward_inside n m h c.0) c.1 i

    pub chain_short : Unlooped g → (n : ℕ) (l : List ℕ) → Reachable g n → Chain g n l → length (n ∷ l) ≤ g.size
    chain_short unlooped n l h c = fits g.size (n ∷ l) (chain_distinct unlooped n l h c) (λ x i. chain_below l n x (reach_below n h) c i)
