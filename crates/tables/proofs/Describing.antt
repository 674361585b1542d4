-- The tables of a lawful image say what its graph says.
use Rattle.std.proofs.Common.{◌≡◌, ℕ, ◌-◌, ◌<◌, ◌≤◌, Bool, true, false, cond, ltb, eqb, ◌↔◌, List, [], ◌∷◌, ◌++◌, length, get_or, ℤ, Some, None, Option, sym, refl, ap, ◌∙◌, subst, inl, inr, ⊎_elim, arith}
use mathlib.Core.Path.{subst⁻¹}
use lib.ListN.{get_or-eq_default}
use Rattle.std.proofs.lemmas.Bool.{and_parts, and_from, or_cases, or_left, or_right, ltb-true, ltb-false, lt-ltb, eqb-true, eq-eqb, cases_eq}
use Rattle.isa.specs.declared.instruction.Instruction.{Instruction}
use Rattle.isa.specs.declared.instruction.Role.{Role}
use Rattle.isa.specs.declared.instruction.Role.TheVariants.{Save}
use Rattle.isa.specs.Slot.{slot_count}
use Rattle.isa.specs.Instruction.{ways_out, role_of}
use Rattle.isa.specs.Image.{instruction_at}
use Rattle.isa.specs.Lawful.{Inside, Lawful}
use Rattle.pricing.specs.Model.{Model}
use Rattle.paths.specs.declared.node.Successors.{Successors}
use Rattle.paths.specs.declared.node.Successors.TheVariants.{End}
use Rattle.paths.specs.declared.node.Node.{Node}
use Rattle.paths.specs.Net.{In, ways_of, no_node, node_at, tabled, Described}
use Rattle.walks.specs.Graph.{Graph, ending, onward, net_of, Sound}
use Rattle.walks.specs.Walk.{Reachable, first, next, Start}
use Rattle.walks.specs.ImageGraph.{way_list, role_in, ways_in, role_at, ways_at, price_at, graph_of}
use Rattle.walks.specs.Certified.{is_save}
use Rattle.walks.proofs.Imaging.{lawful_sound}
use Rattle.walks.proofs.Walking.{reach_below}
use Rattle.search.specs.Reach.{Reaches, itself, onward as further, Tells}
use Rattle.tables.specs.Node.{numbered, paired, successors_of, Tabled}
use Rattle.tables.specs.Start.{way_node, saved_at, started_by, way_net, Begins}
use Rattle.tables.specs.Walk.{walk_node}

pub slots_small : (image : List ℕ) → Lawful image → slot_count image ≤ 1024
slots_small image lawful = grind arith

abbrev listed : Option ℕ → List ℕ
listed None = []
listed (Some n) = n ∷ []

ways_paired : (a b : Option ℕ) → ways_of (paired a b) ≡ listed a ++ listed b
ways_paired a b = grind arith

-- a way out that stays in the image keeps its number
kept_number : (w : Option ℤ) (n : ℕ) → n ≤ 1024 → Inside w n → listed (numbered w) ≡ way_list w
kept_number w n h i = grind arith

save_role : (r : Role) → is_save r ≡ true → r ≡ Save
save_role r e = grind arith

module _ (m : Model) (image : List ℕ) (lawful : Lawful image) where
  abbrev g : Graph
  g = graph_of m image

  sound : Sound g
  sound = lawful_sound m image lawful

  successor_ways : (i : ℕ) (x : Instruction) → instruction_at image i ≡ Some x → ways_of (successors_of x) ≡ ways_in (Some x)
  successor_ways i x e =
      let a = (ways_out x).0 in
      let b = (ways_out x).1 in
      let inside = lawful.inside i x e in
      let small = slots_small image lawful in
      ways_paired (numbered a) (numbered b)
      ∙ ap (λ (l : List ℕ). l ++ listed (numbered b)) (kept_number a (slot_count image) small inside.0)
      ∙ ap (λ (l : List ℕ). way_list a ++ l) (kept_number b (slot_count image) small inside.1)

  node_ways : (i : ℕ) → ways_of (way_node i (instruction_at image i)).successors ≡ ways_at image i
  unfolding ways_at
  node_ways i = go (instruction_at image i) refl
    where
      go : (o : Option Instruction) → instruction_at image i ≡ o → ways_of (way_node i o).successors ≡ ways_in o
      go None e = refl
      go (Some x) e = successor_ways i x e

  walk_ways : (i : ℕ) → onward g i ≡ ways_of (walk_node m i (instruction_at image i)).successors
  unfolding ways_at role_at
  walk_ways i = go (instruction_at image i) refl
    where
      cut : (b : Bool) (s : Successors) (l : List ℕ) → ways_of s ≡ l → cond b [] l ≡ ways_of (cond b End s)
      cut true s l e = refl
      cut false s l e = sym e

      go : (o : Option Instruction) → instruction_at image i ≡ o → cond (ending (role_in o)) [] (ways_in o) ≡ ways_of (walk_node m i o).successors
      go None e = refl
      go (Some x) e = cut (ending (role_of x)) (successors_of x) (ways_in (Some x)) (successor_ways i x e)

  walk_price_lem : (i : ℕ) → price_at m image i ≡ (walk_node m i (instruction_at image i)).price
  unfolding price_at
  walk_price_lem i = grind arith

  walk_slot : (i : ℕ) (o : Option Instruction) → i ≡ (walk_node m i o).slot
  walk_slot i o = grind arith

  pub described_at : (nodes : List Node) (n : ℕ) → node_at nodes n ≡ walk_node m n (instruction_at image n) → Described nodes (net_of g) n
  described_at nodes n e =
      record {
        ways = walk_ways n ∙ sym (ap (λ (x : Node). ways_of x.successors) e);
        price = walk_price_lem n ∙ sym (ap (λ (x : Node). x.price) e);
        slot = walk_slot n (instruction_at image n) ∙ sym (ap (λ (x : Node). x.slot) e);
      }

  pub described : (nodes : List Node) → Tabled no_node nodes (λ i. walk_node m i (instruction_at image i)) 1024
      → (n : ℕ) → n < 1024 → Described nodes (net_of g) n
  described nodes t n h = described_at nodes n (t.holds n h)

  -- over the net of all ways out, slot 0 reaches what is reachable
  net_way : (n s : ℕ) → In s ((way_net image).ways n) → In s (g.ways n)
  net_way n s i = go (ltb n 1024) i
    where
      go : (b : Bool) → In s (cond b (ways_of (way_node n (instruction_at image n)).successors) []) → In s (g.ways n)
      go true i = subst (In s) (node_ways n) i
      go false i = absurd i

  way_net_there : (n : ℕ) → n < 1024 → (way_net image).ways n ≡ g.ways n
  way_net_there n h = ap (λ (b : Bool). cond b (ways_of (way_node n (instruction_at image n)).successors) []) (lt-ltb n 1024 h) ∙ node_ways n

  reaches_reachable : (n : ℕ) → Reaches (way_net image) 0 n → Reachable g n
  reaches_reachable n itself = first
  reaches_reachable n (further {m = k} r i) = next (reaches_reachable k r) (net_way k n i)

  reachable_reaches : (n : ℕ) → Reachable g n → Reaches (way_net image) 0 n
  reachable_reaches n first = itself
  reachable_reaches n (next {n = k} r i) =
      let b = reach_below g sound k r in
      let small = slots_small image lawful in
      further (reachable_reaches k r) (subst⁻¹ (In n) (way_net_there k (omega arith)) i)

  pub reached_told : (reached : List Bool) → Tells reached (Reaches (way_net image) 0) → Tells reached (Reachable g)
  reached_told reached tells n h =
      let t = tells n h in (λ e. reaches_reachable n (t.0 e), λ r. t.1 (reachable_reaches n r))

  -- so the starts of any image are those of its graph, where it is lawful
  begins_start : (n : ℕ) → Begins image n ↔ Start g n
  unfolding role_at
  begins_start n = (there, back)
    where
      there : Begins image n → Start g n
      there (inl e) = inl e
      there (inr (s, r, role, e)) = inr (s, reaches_reachable s r, role, e)

      back : Start g n → Begins image n
      back (inl e) = inl e
      back (inr (s, r, role, e)) = inr (s, reachable_reaches s r, role, e)

  pub starts_told : (starts : List Bool) → Tells starts (Begins image) → Tells starts (Start g)
  starts_told starts tells n h =
      let t = tells n h in
      let b = begins_start n in
      (λ e. b.0 (t.0 e), λ s. t.1 (b.1 s))

-- of any image, where a table has all its ways out
module _ (image : List ℕ) (nodes : List Node) (size : length nodes ≡ 1024)
    (at : (n : ℕ) → n < 1024 → (tabled nodes).ways n ≡ ways_of (way_node n (instruction_at image n)).successors) where
  same_ways : (n : ℕ) → (tabled nodes).ways n ≡ (way_net image).ways n
  same_ways n = go (ltb n 1024) refl
    where
      go : (b : Bool) → ltb n 1024 ≡ b → (tabled nodes).ways n ≡ cond b (ways_of (way_node n (instruction_at image n)).successors) []
      go true e = at n (ltb-true n 1024 e)
      go false e =
          let h = ltb-false n 1024 e in
          ap (λ (x : Node). ways_of x.successors) (get_or-eq_default nodes no_node (omega arith))

  to_net : (n : ℕ) → Reaches (tabled nodes) 0 n → Reaches (way_net image) 0 n
  to_net n itself = itself
  to_net n (further {m = k} r i) = further (to_net k r) (subst (In n) (same_ways k) i)

  of_net : (n : ℕ) → Reaches (way_net image) 0 n → Reaches (tabled nodes) 0 n
  of_net n itself = itself
  of_net n (further {m = k} r i) = further (of_net k r) (subst⁻¹ (In n) (same_ways k) i)

  pub reaches_told : (reached : List Bool) → Tells reached (Reaches (tabled nodes) 0) → Tells reached (Reaches (way_net image) 0)
  reaches_told reached tells n h =
      let t = tells n h in (λ e. to_net n (t.0 e), λ r. t.1 (of_net n r))

module _ (image : List ℕ) (reached : List Bool) (tells : Tells reached (Reaches (way_net image) 0)) where
  saved : (s : ℕ) → s < 1024 → (saved_at image reached s ≡ true) ↔ (Reaches (way_net image) 0 s × (role_in (instruction_at image s) ≡ Save))
  saved s h = (
    λ e.
        let p = and_parts (is_save (role_in (instruction_at image s))) (get_or reached s false) e in
        ((tells s h).0 p.1, save_role (role_in (instruction_at image s)) p.0),
    λ (q : Reaches (way_net image) 0 s × (role_in (instruction_at image s) ≡ Save)).
        and_from (is_save (role_in (instruction_at image s))) (get_or reached s false) (ap is_save q.1) ((tells s h).1 q.0),
  )

  pub begins_told : (starts : List Bool) → Tabled false starts (started_by image reached) 1024 → Tells starts (Begins image)
  begins_told starts u n h = (there, back)
    where
      there : get_or starts n false ≡ true → Begins image n
      there e =
          ⊎_elim (λ (z : n ≡ 0). inl z)
          (λ (ne : n ≡ 0 → ⊥).
          ⊎_elim (λ (z : eqb n 0 ≡ true). inl (eqb-true n 0 z))
          (λ (z : saved_at image reached (n - 1) ≡ true). let p = (saved (n - 1) (omega arith)).0 z in inr (n - 1, p.0, p.1, omega arith))
          (or_cases (eqb n 0) (saved_at image reached (n - 1)) (sym (u.holds n h) ∙ e)))
          (cases_eq n 0)

      back : Begins image n → get_or starts n false ≡ true
      back (inl e) = u.holds n h ∙ or_left (eqb n 0) (saved_at image reached (n - 1)) (eq-eqb n 0 e)
      back (inr (s, r, role, e)) =
          let same : n - 1 ≡ s = omega arith in
          u.holds n h ∙ or_right (eqb n 0) (saved_at image reached (n - 1)) (ap (saved_at image reached) same ∙ (saved s (omega arith)).1 (r, role))

pub way_table_ways : (image : List ℕ) (nodes : List Node) → Tabled no_node nodes (λ i. way_node i (instruction_at image i)) 1024
    → (n : ℕ) → n < 1024 → (tabled nodes).ways n ≡ ways_of (way_node n (instruction_at image n)).successors
way_table_ways image nodes t n lt = ap (λ (x : Node). ways_of x.successors) (t.holds n lt)
