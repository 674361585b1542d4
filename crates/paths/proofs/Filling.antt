-- The list filled along an order holds the worths of the order's nodes.
use Rattle.std.proofs.Common.{◌≡◌, ℕ, suc, ◌+◌, ◌<◌, ◌⊎◌, List, [], ◌∷◌, length, get_or, drop, set, sym, refl, ap, ◌∙◌, inl, inr, ⊎_elim, add-one, arith, length-set, drop-cons, get_or-set_other, get_or-set_same}
use mathlib.Core.Path.{subst⁻¹}
use Rattle.std.proofs.lemmas.Bool.{cases_eq}
use Rattle.paths.specs.Kind.{PathKind, Laws}
use Rattle.paths.specs.Net.{Net, In, Complete, Listed, Ordered, Described, tabled}
use Rattle.paths.specs.declared.node.Node.{Node}
use Rattle.paths.specs.Join.{value, JoinFrom}
use Rattle.paths.specs.Fill.{worth_at, filled, Untouched, OrderOf, Worths}
use Rattle.paths.proofs.Joining.{join_node, same_join}

module _ {V : Type 0} (k : PathKind V) (g : Net) where
  -- one turn of the loop
  pub filled_more : (order : List ℕ) (i : ℕ) (xs ys zs : List V) → i < length order
      → ys ≡ set xs (get_or order i 0) (worth_at k g xs (get_or order i 0))
      → filled k g (drop i order) xs ≡ zs → filled k g (drop (i + 1) order) ys ≡ zs
  filled_more order i xs ys zs h e inv =
      let d : drop i order ≡ get_or order i 0 ∷ drop (i + 1) order = rw add-one (drop-cons order i 0 h) in
      rw e (rw d at inv)

  -- a node of the rest is a node of the whole
  listed_rest : (n m : ℕ) (order : List ℕ) → Listed order (length order) n → Listed (m ∷ order) (length (m ∷ order)) n
  listed_rest n m order (q, h, e) = (suc q, omega arith, e)

  pub untouched : (order : List ℕ) (xs : List V) (d : V) → Untouched order xs (filled k g order xs) d
  untouched [] xs d n out = refl
  untouched (m ∷ order) xs d n out =
      untouched order (set xs m (worth_at k g xs m)) d n (λ i. out (listed_rest n m order i))
      ∙ get_or-set_other xs m n (worth_at k g xs m) d (λ e. out (0, omega arith, sym e))

-- a node among those done or among the first of an order, after the order's first node is done
moves : (m t p : ℕ) (done order : List ℕ) → In t done ⊎ Listed (m ∷ order) (suc p) t → In t (m ∷ done) ⊎ Listed order p t
moves m t p done order e = grind arith

module _ {V : Type 0} (k : PathKind V) (L : Laws k) (g : Net) where
  abbrev at : List V → ℕ → V
  at xs n = get_or xs n k.empty

  -- the worths of the nodes done are the joins from them
  abbrev Right : List ℕ → List V → Type 0
  Right done xs = (n : ℕ) → In n done → JoinFrom k g n (at xs n)

  right_more : (done : List ℕ) (m : ℕ) (xs : List V) → m < length xs → ((t : ℕ) → In t (g.ways m) → In t done)
      → Right done xs → Right (m ∷ done) (set xs m (worth_at k g xs m))
  right_more done m xs h before r n i =
      let v = worth_at k g xs m in
      ⊎_elim
      (λ (e : n ≡ m).
      subst⁻¹ (λ (u : ℕ). JoinFrom k g u (at (set xs m v) u)) e
      (subst⁻¹ (λ (w : V). JoinFrom k g m w) (get_or-set_same xs m v k.empty h) (join_node k L g m (at xs) (λ u w. r u (before u w)))))
      (λ (ne : n ≡ m → ⊥).
      subst⁻¹ (λ (w : V). JoinFrom k g n w) (get_or-set_other xs m n v k.empty ne) (r n (⊎_elim (λ (e : n ≡ m). absurd (ne e)) (λ (j : In n done). j) i)))
      (cases_eq n m)

  right_filled : (order done : List ℕ) (xs : List V)
      → ((p t : ℕ) → p < length order → In t (g.ways (get_or order p 0)) → In t done ⊎ Listed order p t)
      → ((p : ℕ) → p < length order → get_or order p 0 < length xs) → Right done xs
      → (n : ℕ) → In n done ⊎ Listed order (length order) n → JoinFrom k g n (at (filled k g order xs) n)
  right_filled [] done xs before small r n (inl i) = r n i
  right_filled [] done xs before small r n (inr (q, h, e)) = absurd (let z : q < 0 = h in omega arith)
  right_filled (m ∷ order) done xs before small r n i =
      let here : m < length xs = small 0 (omega arith) in
      right_filled order (m ∷ done) (set xs m (worth_at k g xs m))
      (λ p t h w. moves m t p done order (before (suc p) t (omega arith) w))
      (λ p h. let z : get_or order p 0 < length xs = small (suc p) (omega arith) in simp length-set z)
      (right_more done m xs here (λ t w. ⊎_elim (λ (j : In t done). j) (λ (z : Listed (m ∷ order) 0 t). absurd (let y = z.1 in omega arith)) (before 0 t (omega arith) w)) r)
      n (moves m n (length order) done order i)

  -- along an order at which the table describes the net, both fill alike
  filled_alike : (nodes : List Node) (order : List ℕ) (xs : List V) → ((p : ℕ) → p < length order → Described nodes g (get_or order p 0))
      → filled k (tabled nodes) order xs ≡ filled k g order xs
  filled_alike nodes [] xs d = refl
  filled_alike nodes (m ∷ order) xs d =
      let here : Described nodes g m = d 0 (omega arith) in
      let ways = here.ways in
      let price = here.price in
      let slot = here.slot in
      let same : worth_at k (tabled nodes) xs m ≡ worth_at k g xs m = cc in
      ap (λ (v : V). filled k (tabled nodes) order (set xs m v)) same
      ∙ filled_alike nodes order (set xs m (worth_at k g xs m)) (λ p h. d (suc p) (omega arith))

  worths_along : (order : List ℕ) (xs : List V) → Ordered g order → ((p : ℕ) → p < length order → get_or order p 0 < length xs)
      → Worths k g order (filled k g order xs)
  worths_along order xs ordered inside =
      let ys = filled k g order xs in
      let joins : (n : ℕ) → Listed order (length order) n → JoinFrom k g n (at ys n) =
      λ n i. right_filled order [] xs (λ p t h w. inr (ordered p t h w)) inside (λ m j. absurd j) n (inr i) in
      record {
        recursive = λ n i.
            let ways : (u : ℕ) → In u (g.ways n) → Listed order (length order) u =
            λ u w.
            let below = i.1 in
            let b = ordered i.0 u i.1 (subst⁻¹ (λ (m : ℕ). In u (g.ways m)) i.2 w) in
            let before = b.1 in
            (b.0, omega arith, b.2) in
            same_join k L (value k g) (Complete g n) (at ys n) (worth_at k g ys n) (joins n i) (join_node k L g n (at ys) (λ u w. joins u (ways u w)));
        joined = joins;
      }

  pub worths : (nodes : List Node) (order : List ℕ) (xs : List V) → OrderOf nodes g order (length xs)
      → Worths k g order (filled k (tabled nodes) order xs)
  worths nodes order xs o =
      subst⁻¹ (λ (ys : List V). Worths k g order ys) (filled_alike nodes order xs o.described) (worths_along order xs o.ordered o.inside)
