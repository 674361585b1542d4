-- The joined worths of a node's successors, extended by it, are the join of all complete lists from it.
use Rattle.std.proofs.Common.{◌≡◌, ℕ, List, [], ◌∷◌, sym, refl, ap, ◌∙◌, subst, inl, inr}
use mathlib.Core.Path.{subst⁻¹}
use Rattle.paths.specs.Kind.{PathKind, Laws}
use Rattle.paths.specs.Net.{Net, In, Complete, ends, goes}
use Rattle.paths.specs.Join.{join_over, value, Made, one, two, JoinOf, JoinFrom}

module _ {V : Type 0} (k : PathKind V) (L : Laws k) where
  -- x is taken in by y: to join it to y changes nothing
  abbrev Takes : V → V → Type 0
  Takes y x = k.join x y ≡ y

  takes_trans : (x y z : V) → Takes y x → Takes z y → Takes z x
  takes_trans x y z a b =
      ap (λ (v : V). k.join x v) (sym b) ∙ sym (L.associative x y z) ∙ ap (λ (v : V). k.join v z) a ∙ b

  takes_left : (x y : V) → Takes (k.join x y) x
  takes_left x y = sym (L.associative x x y) ∙ ap (λ (v : V). k.join v y) (L.idempotent x)

  takes_right : (x y : V) → Takes (k.join x y) y
  takes_right x y = subst (λ (v : V). Takes v y) (L.commutative y x) (takes_left y x)

  takes_extended : (x y : V) (s p : ℕ) → Takes y x → Takes (k.extend y s p) (k.extend x s p)
  takes_extended x y s p a = sym (L.spreads x y s p) ∙ ap (λ (v : V). k.extend v s p) a

  module _ {A : Type 0} (f : A → V) where
    takes_over : (l : List A) (a : A) → In a l → Takes (join_over k f l) (f a)
    takes_over [] a i = absurd i
    takes_over (b ∷ []) a (inl e) = subst⁻¹ (λ (c : A). Takes (f b) (f c)) e (L.idempotent (f b))
    takes_over (b ∷ []) a (inr i) = absurd i
    takes_over (b ∷ c ∷ l) a (inl e) =
        subst⁻¹ (λ (d : A). Takes (join_over k f (b ∷ c ∷ l)) (f d)) e (takes_left (f b) (join_over k f (c ∷ l)))
    takes_over (b ∷ c ∷ l) a (inr i) =
        takes_trans (f a) (join_over k f (c ∷ l)) (join_over k f (b ∷ c ∷ l)) (takes_over (c ∷ l) a i)
        (takes_right (f b) (join_over k f (c ∷ l)))

    module _ (P : A → Type 0) where
      -- what takes in every part takes in what they make
      takes_made : (y : V) → ((a : A) → P a → Takes y (f a)) → (x : V) → Made k f P x → Takes y x
      takes_made y h x (one {a} p) = h a p
      takes_made y h x (two {x = u} {y = v} m n) =
          L.associative u v y ∙ ap (λ (w : V). k.join u w) (takes_made y h v n) ∙ takes_made y h u m

      some_made : (x : V) → Made k f P x → (a : A) × P a
      some_made x (one {a} p) = (a, p)
      some_made x (two {x = u} m n) = some_made u m

      made_over : (l : List A) (a : A) → In a l → ((b : A) → In b l → P b) → Made k f P (join_over k f l)
      made_over [] a i h = absurd i
      made_over (b ∷ []) a i h = one (h b (inl refl))
      made_over (b ∷ c ∷ l) a i h = two (one (h b (inl refl))) (made_over (c ∷ l) c (inl refl) (λ d j. h d (inr j)))

      -- two joins of the same values are one
      same_made : (x y : V) → Made k f P x → ((a : A) → P a → Takes x (f a)) → Made k f P y → ((a : A) → P a → Takes y (f a)) → x ≡ y
      same_made x y m h n j = sym (takes_made x h y n) ∙ L.commutative y x ∙ takes_made y j x m

      pub same_join : (x y : V) → JoinOf k f P x → JoinOf k f P y → x ≡ y
      same_join x y i j = same_made x y i.made i.covers j.made j.covers

      -- the order does not matter
      join_of : (x : V) → Made k f P x → ((a : A) → P a → Takes x (f a)) → JoinOf k f P x
      join_of x m h =
          record {
            made = m;
            covers = h;
            any_order = λ l every only.
                let s = some_made x m in
                same_made (join_over k f l) x (made_over l s.0 (every s.0 s.1) only) (λ a p. takes_over l a (every a p)) m h;
          }

  module _ (g : Net) where
    module _ (n : ℕ) where
      abbrev extended : V → V
      extended x = k.extend x (g.slot n) (g.price n)

      abbrev MadeFrom : ℕ → V → Type 0
      MadeFrom m x = Made k (value k g) (Complete g m) x

      made_extended : (t : ℕ) → In t (g.ways n) → (x : V) → MadeFrom t x → MadeFrom n (extended x)
      made_extended t i x (one c) = one (goes i c)
      made_extended t i x (two {x = u} {y = v} a b) =
          subst⁻¹ (λ (w : V). MadeFrom n w) (L.spreads u v (g.slot n) (g.price n))
          (two (made_extended t i u a) (made_extended t i v b))

      module _ (f : ℕ → V) where
        made_ways : (ws : List ℕ) (t : ℕ) → In t ws → ((u : ℕ) → In u ws → In u (g.ways n)) → ((u : ℕ) → In u ws → JoinFrom k g u (f u)) → MadeFrom n (extended (join_over k f ws))
        made_ways [] t i sub h = absurd i
        made_ways (u ∷ []) t i sub h = made_extended u (sub u (inl refl)) (f u) (h u (inl refl)).made
        made_ways (u ∷ w ∷ ws) t i sub h =
            subst⁻¹ (λ (v : V). MadeFrom n v) (L.spreads (f u) (join_over k f (w ∷ ws)) (g.slot n) (g.price n))
            (two (made_extended u (sub u (inl refl)) (f u) (h u (inl refl)).made)
            (made_ways (w ∷ ws) w (inl refl) (λ v j. sub v (inr j)) (λ v j. h v (inr j))))

        covers_ways : ((u : ℕ) → In u (g.ways n) → JoinFrom k g u (f u)) → (l : List ℕ) → Complete g n l → Takes (extended (join_over k f (g.ways n))) (value k g l)
        covers_ways h l (ends e) =
            subst⁻¹ (λ (ws : List ℕ). Takes (extended (join_over k f ws)) (extended k.empty)) e (L.idempotent (extended k.empty))
        covers_ways h l (goes {t = t} {l = m} i c) =
            takes_extended (value k g m) (join_over k f (g.ways n)) (g.slot n) (g.price n)
            (takes_trans (value k g m) (f t) (join_over k f (g.ways n)) ((h t i).covers m c) (takes_over f (g.ways n) t i))

        made_node : (ws : List ℕ) → g.ways n ≡ ws → ((u : ℕ) → In u (g.ways n) → JoinFrom k g u (f u)) → MadeFrom n (extended (join_over k f ws))
        made_node [] e h = one (ends e)
        made_node (t ∷ ws) e h =
            let sub : (u : ℕ) → In u (t ∷ ws) → In u (g.ways n) = λ u i. subst⁻¹ (λ (l : List ℕ). In u l) e i in
            made_ways (t ∷ ws) t (inl refl) sub (λ u i. h u (sub u i))

        pub join_node : ((u : ℕ) → In u (g.ways n) → JoinFrom k g u (f u)) → JoinFrom k g n (extended (join_over k f (g.ways n)))
        join_node h =
            join_of (value k g) (Complete g n) (extended (join_over k f (g.ways n))) (made_node (g.ways n) refl h) (covers_ways h)
