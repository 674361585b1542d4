-- The chart of an image, made slot by slot.
use Rattle.std.proofs.Common.{◌≡◌, true, ℕ, zero, suc, ◌+◌, ◌-◌, ◌/◌, ◌<◌, ◌≤◌, ◌&&◌, ◌||◌, ◌↔◌, eqb, min, Bool, false, List, [], length, take, get_or, set, replicate, Some, None, Option, is_none, sym, refl, ap, ◌∙◌, subst, ⊎_elim, arith}
use Rattle.std.proofs.lemmas.Grind.{common_steps}
use Rattle.std.proofs.lemmas.Bool.{and_parts, and_from, cases_eq, cases_lt, ne_eqb}
use mathlib.Core.Path.{subst⁻¹}
use Rattle.isa.specs.declared.instruction.Instruction.{Instruction}
use Rattle.isa.specs.Image.{well_sized, instruction_at}
use Rattle.isa.specs.Slot.{slot_count}
use Rattle.isa.specs.Lawful.{leaving_by, Lawful}
use Rattle.isa.specs.declared.refusal.Refusal.{Refusal}
use Rattle.isa.proofs.Judging.{stays_both, both_stay, slot_of}
use Rattle.pricing.specs.Model.{Model}
use Rattle.paths.specs.declared.node.Node.{Node}
use lib.ListN.{get_or-eq_default}
use Rattle.paths.specs.Net.{ways_of, no_node, node_at, tabled, Described}
use Rattle.walks.specs.Graph.{net_of}
use Rattle.walks.specs.ImageGraph.{role_in, graph_of}
use Rattle.walks.specs.Certified.{is_save}
use Rattle.tables.specs.Node.{Tabled}
use Rattle.search.specs.Reach.{Reaches, Tells}
use Rattle.tables.specs.Start.{way_node, started_by, way_net, Begins}
use Rattle.tables.specs.Walk.{walk_node}
use Rattle.tables.specs.Chart.{staying_in, opened_at, closed, charted_at, started_after, ChartOf}
use Rattle.tables.proofs.Describing.{slots_small, described_at, starts_told, reaches_told, begins_told}

-- past its end an image has no instruction
pub absent : (image : List ℕ) (k : ℕ) → min (length image) 8192 / 8 ≤ k → k < 1024 → instruction_at image k ≡ None
absent image k h lt = grind arith

-- the answer so far, whether the image is lawful
pub record Judging (image : List ℕ) (n i : ℕ) (lawful : Bool) : Type 0 where
  pub yes : lawful ≡ true → (well_sized image ≡ true) × ((k : ℕ) → k < i → staying_in (instruction_at image k) n ≡ true)
  pub no : Lawful image → lawful ≡ true

-- a legal instruction that stays
stays_is : (o : Option Instruction) (n : ℕ) → staying_in o n ≡ true → (x : Instruction) × (o ≡ Some x) × (leaving_by x n ≡ None)
stays_is None n e = cc
stays_is (Some x) n e = (x, refl, go (leaving_by x n) e)
  where
    go : (r : Option Refusal) → is_none r ≡ true → r ≡ None
    go None e = refl
    go (Some r) e = cc

pub judging : (image : List ℕ) (n : ℕ) → Judging image n 0 (well_sized image)
judging image n = record { yes = λ e. (e, λ k lt. absurd (omega arith)); no = λ lawful. lawful.sized }

-- one slot more
pub judges : {image : List ℕ} {n i : ℕ} {lawful : Bool} → Judging image n i lawful → n ≡ min (length image) 8192 / 8 → i < n
    → Judging image n (i + 1) (lawful && staying_in (instruction_at image i) n)
judges {image} {n} {i} {lawful} J count lt = record {
  yes = λ e.
      let p = and_parts lawful (staying_in (instruction_at image i) n) e in
      let was = J.yes p.0 in (
        was.0,
        λ k h. ⊎_elim
            (λ (is : k ≡ i). subst⁻¹ (λ (j : ℕ). staying_in (instruction_at image j) n ≡ true) is p.1)
            (λ (ne : k ≡ i → ⊥). was.1 k (omega arith))
            (cases_eq k i),
      );
  no = λ l.
      let small = slots_small image l in
      let legal = l.legal i (omega arith) in
      let stays : leaving_by legal.0 (slot_count image) ≡ None = both_stay legal.0 (slot_count image) (l.inside i legal.0 legal.1) in
      let same : n ≡ slot_count image = let s = l.sized in grind arith in
      and_from lawful (staying_in (instruction_at image i) n) (J.no l)
      (ap (λ (o : Option Instruction). staying_in o n) legal.1 ∙ ap is_none (ap (leaving_by legal.0) same ∙ stays));
}

-- at the end it is the answer
pub judged : {image : List ℕ} {n i : ℕ} {lawful : Bool} → Judging image n i lawful → n ≡ min (length image) 8192 / 8 → n ≤ i
    → (lawful ≡ true) ↔ Lawful image
judged {image} {n} {i} {lawful} J count end = (yes, J.no)
  where
    yes : lawful ≡ true → Lawful image
    yes e =
        let was = J.yes e in
        let sized = was.0 in
        let same : n ≡ slot_count image = grind arith in
        record {
          sized = sized;
          legal = λ k lt. let s = stays_is (instruction_at image k) n (was.1 k (omega arith)) in (s.0, s.1);
          inside = λ k x there.
              let lt = slot_of image k x sized there in
              let s = stays_is (instruction_at image k) n (was.1 k (omega arith)) in
              let one : s.0 ≡ x = grind arith in
              stays_both x (slot_count image) (ap (λ (y : Instruction). leaving_by y (slot_count image)) (sym one) ∙ ap (leaving_by s.0) (sym same) ∙ s.2);
        }

module _ (m : Model) (image : List ℕ) where
  -- the slots below i have their nodes
  pub record Opening (nodes : List Node) (saves : List Bool) (i : ℕ) : Type 0 where
    pub sized : length nodes ≡ 1024
    pub sized_saves : length saves ≡ 1024
    pub node : (k : ℕ) → k < i → node_at nodes k ≡ opened_at m k (instruction_at image k)
    pub no_node_yet : (k : ℕ) → i ≤ k → node_at nodes k ≡ no_node
    pub save : (k : ℕ) → k < i → get_or saves k false ≡ is_save (role_in (instruction_at image k))
    pub no_save_yet : (k : ℕ) → i ≤ k → get_or saves k false ≡ false

  pub opening : {nodes : List Node} {saves : List Bool} → nodes ≡ replicate 1024 no_node → saves ≡ replicate 1024 false → Opening nodes saves 0
  opening {nodes} {saves} e f = go 1024 refl e f
    where
      go : (k : ℕ) → k ≡ 1024 → nodes ≡ replicate k no_node → saves ≡ replicate k false → Opening nodes saves 0
      go k is e f = record {
        sized = grind (arith, common_steps);
        sized_saves = grind (arith, common_steps);
        node = λ j lt. absurd (omega arith);
        no_node_yet = λ j h. grind (arith, common_steps);
        save = λ j lt. absurd (omega arith);
        no_save_yet = λ j h. grind (arith, common_steps);
      }

  module _ {nodes : List Node} {saves : List Bool} {i : ℕ} (O : Opening nodes saves i) where
    pub opens : i < 1024 → Opening (set nodes i (opened_at m i (instruction_at image i))) (set saves i (is_save (role_in (instruction_at image i)))) (i + 1)
    opens lt = record {
      sized = grind (arith, common_steps, O.sized);
      sized_saves = grind (arith, common_steps, O.sized_saves);
      node = λ k below. ⊎_elim
          (λ (is : k ≡ i).
          let e : node_at (set nodes i (opened_at m i (instruction_at image i))) i ≡ opened_at m i (instruction_at image i) =
          grind (arith, common_steps, O.sized) in
          subst (λ (j : ℕ). node_at (set nodes i (opened_at m i (instruction_at image i))) j ≡ opened_at m j (instruction_at image j)) (sym is) e)
          (λ (ne : k ≡ i → ⊥).
          let e : node_at (set nodes i (opened_at m i (instruction_at image i))) k ≡ node_at nodes k = grind (arith, common_steps) in
          e ∙ O.node k (omega arith))
          (cases_eq k i);
      no_node_yet = λ k h.
          let e : node_at (set nodes i (opened_at m i (instruction_at image i))) k ≡ node_at nodes k = grind (arith, common_steps) in
          e ∙ O.no_node_yet k (omega arith);
      save = λ k below. ⊎_elim
          (λ (is : k ≡ i).
          let e : get_or (set saves i (is_save (role_in (instruction_at image i)))) i false ≡ is_save (role_in (instruction_at image i)) =
          grind (arith, common_steps, O.sized_saves) in
          subst (λ (j : ℕ). get_or (set saves i (is_save (role_in (instruction_at image i)))) j false ≡ is_save (role_in (instruction_at image j))) (sym is) e)
          (λ (ne : k ≡ i → ⊥).
          let e : get_or (set saves i (is_save (role_in (instruction_at image i)))) k false ≡ get_or saves k false = grind (arith, common_steps) in
          e ∙ O.save k (omega arith))
          (cases_eq k i);
      no_save_yet = λ k h.
          let e : get_or (set saves i (is_save (role_in (instruction_at image i)))) k false ≡ get_or saves k false = grind (arith, common_steps) in
          e ∙ O.no_save_yet k (omega arith);
    }

    pub opened_nodes : min (length image) 8192 / 8 ≤ i → Tabled no_node nodes (λ k. opened_at m k (instruction_at image k)) 1024
    opened_nodes end = record {
      size = O.sized;
      holds = λ k lt. ⊎_elim
          (λ (h : k < i). O.node k h)
          (λ (h : i ≤ k). O.no_node_yet k h ∙ sym (ap (opened_at m k) (absent image k (omega arith) lt)))
          (cases_lt k i);
    }

    pub opened_saves : min (length image) 8192 / 8 ≤ i → Tabled false saves (λ k. is_save (role_in (instruction_at image k))) 1024
    opened_saves end = record {
      size = O.sized_saves;
      holds = λ k lt. ⊎_elim
          (λ (h : k < i). O.save k h)
          (λ (h : i ≤ k). O.no_save_yet k h ∙ sym (ap (λ (o : Option Instruction). is_save (role_in o)) (absent image k (omega arith) lt)))
          (cases_lt k i);
    }

-- the nodes below i are closed where they are saves
pub record Closing (before : List Node) (saves : List Bool) (nodes : List Node) (i : ℕ) : Type 0 where
  pub sized : length nodes ≡ length before
  pub node : (k : ℕ) → k < i → node_at nodes k ≡ closed (get_or saves k false) (node_at before k)
  pub same : (k : ℕ) → i ≤ k → node_at nodes k ≡ node_at before k

-- a slot that is closed where it is a save is as walks go along it
pub closed_charted : (m : Model) (i : ℕ) (o : Option Instruction) → closed (is_save (role_in o)) (opened_at m i o) ≡ charted_at m i o
closed_charted m i o = grind arith

-- which slots are saves, told by a list that may end with the image
abbrev SavesIn : List ℕ → List Bool → Type 0
SavesIn image saves = (k : ℕ) → k < 1024 → get_or saves k false ≡ is_save (role_in (instruction_at image k))

pub saves_in : (image : List ℕ) (saves : List Bool) (count : ℕ) → count ≡ min (length image) 8192 / 8
    → Tabled false saves (λ i. is_save (role_in (instruction_at image i))) 1024 → SavesIn image (take count saves)
saves_in image saves count all t k lt =
    ⊎_elim
    (λ (h : k < count).
    let e : get_or (take count saves) k false ≡ get_or saves k false = grind (arith, common_steps) in
    e ∙ t.holds k lt)
    (λ (h : count ≤ k).
    let e : get_or (take count saves) k false ≡ false = grind (arith, common_steps) in
    e ∙ sym (ap (λ (o : Option Instruction). is_save (role_in o)) (absent image k (omega (arith, h, all)) lt)))
    (cases_lt k count)

pub charted : (m : Model) (image : List ℕ) {opened nodes : List Node} (saves : List Bool) → length nodes ≡ 1024
    → Tabled no_node opened (λ i. opened_at m i (instruction_at image i)) 1024
    → SavesIn image saves
    → ((k : ℕ) → k < 1024 → node_at nodes k ≡ closed (get_or saves k false) (node_at opened k))
    → Tabled no_node nodes (λ i. charted_at m i (instruction_at image i)) 1024
charted m image {opened} saves size o s c = record {
  size = size;
  holds = λ k lt.
      c k lt ∙ ap (λ (b : Bool). closed b (node_at opened k)) (s k lt) ∙ ap (closed (is_save (role_in (instruction_at image k)))) (o.holds k lt)
      ∙ closed_charted m k (instruction_at image k);
}

-- the slot after a save that is reached
pub started_charted : (image : List ℕ) (saves reached : List Bool) → SavesIn image saves
    → (starts : List Bool) → Tabled false starts (started_after saves reached) 1024 → Tabled false starts (started_by image reached) 1024
started_charted image saves reached s starts t = record {
  size = t.size;
  holds = λ k lt.
      t.holds k lt ∙ ap (λ (b : Bool). eqb k 0 || (b && get_or reached (k - 1) false)) (s (k - 1) (omega arith));
}

-- the ways out of an opened slot
pub opened_ways : (m : Model) (image : List ℕ) (nodes : List Node) → Tabled no_node nodes (λ i. opened_at m i (instruction_at image i)) 1024
    → (n : ℕ) → n < 1024 → (tabled nodes).ways n ≡ ways_of (way_node n (instruction_at image n)).successors
opened_ways m image nodes t n lt = ap (λ (x : Node). ways_of x.successors) (t.holds n lt) ∙ go (instruction_at image n)
  where
    go : (o : Option Instruction) → ways_of (opened_at m n o).successors ≡ ways_of (way_node n o).successors
    go None = refl
    go (Some x) = refl

-- the chart of a lawful image says what its graph says
module _ (m : Model) (image : List ℕ) (lawful : Lawful image) (nodes : List Node)
    (t : Tabled no_node nodes (λ i. charted_at m i (instruction_at image i)) 1024) where
  pub chart_described : (n : ℕ) → n < slot_count image → Described nodes (net_of (graph_of m image)) n
  chart_described n h =
      let small = slots_small image lawful in
      let legal = lawful.legal n h in
      let e : node_at nodes n ≡ walk_node m n (instruction_at image n) =
      t.holds n (omega arith) ∙ ap (charted_at m n) legal.1 ∙ sym (ap (walk_node m n) legal.1) in
      described_at m image lawful nodes n e

  pub chart_ends : (n : ℕ) → slot_count image ≤ n → (tabled nodes).ways n ≡ []
  chart_ends n h =
      let s = lawful.sized in
      ⊎_elim
      (λ (lt : n < 1024). ap (λ (x : Node). ways_of x.successors) (t.holds n lt ∙ ap (charted_at m n) (absent image n (grind arith) lt)))
      (λ (le : 1024 ≤ n). let l = t.size in ap (λ (x : Node). ways_of x.successors) (get_or-eq_default nodes no_node (omega arith)))
      (cases_lt n 1024)

-- the starts after the saves below i
pub record Starting (saves reached starts : List Bool) (i : ℕ) : Type 0 where
  pub sized : length starts ≡ 1024
  pub first : get_or starts 0 false ≡ true
  pub after : (k : ℕ) → k < i → k + 1 < 1024 → get_or starts (k + 1) false ≡ (get_or saves k false && get_or reached k false)
  pub no_start_yet : (k : ℕ) → i ≤ k → get_or starts (k + 1) false ≡ false

pub starting : (saves reached : List Bool) → Starting saves reached (set (replicate 1024 false) 0 true) 0
starting saves reached = go 1024 refl
  where
    go : (n : ℕ) → n ≡ 1024 → Starting saves reached (set (replicate n false) 0 true) 0
    go n is = record {
      sized = grind (arith, common_steps);
      first = grind (arith, common_steps);
      after = λ k h lt. absurd (omega arith);
      no_start_yet = λ k h. grind (arith, common_steps);
    }

after_next : (saves reached : List Bool) (k : ℕ) → started_after saves reached (suc k) ≡ (get_or saves k false && get_or reached k false)
after_next saves reached k =
    let less : suc k - 1 ≡ k = omega arith in
    ap (λ (b : Bool). b || (get_or saves (suc k - 1) false && get_or reached (suc k - 1) false)) (ne_eqb (suc k) 0 (λ e. omega arith))
    ∙ ap (λ (n : ℕ). get_or saves n false && get_or reached n false) less

pub all_started : {saves reached starts : List Bool} {i : ℕ} → Starting saves reached starts i → length saves ≤ i
    → Tabled false starts (started_after saves reached) 1024
all_started {saves} {reached} {starts} {i} S end = record { size = S.sized; holds = holds }
  where
    holds : (k : ℕ) → k < 1024 → get_or starts k false ≡ started_after saves reached k
    holds zero lt = S.first
    holds (suc k) lt =
        let next : k + 1 ≡ suc k = omega arith in
        subst (λ (n : ℕ). get_or starts n false ≡ (get_or saves k false && get_or reached k false)) next
        (⊎_elim
        (λ (h : k < i). S.after k h (omega (arith, lt)))
        (λ (h : i ≤ k).
        let none : get_or saves k false ≡ false = grind (arith, common_steps) in
        S.no_start_yet k h ∙ sym (ap (λ (b : Bool). b && get_or reached k false) none))
        (cases_lt k i))
        ∙ sym (after_next saves reached k)

-- a chart that is made of the opened slots and the saves of an image
pub record Finished (m : Model) (image : List ℕ) (nodes : List Node) (starts reached : List Bool) : Type 0 where
  pub nodes_told : Tabled no_node nodes (λ i. charted_at m i (instruction_at image i)) 1024
  pub size : length starts ≡ 1024
  pub starts_begin : Tells starts (Begins image)
  pub reached_all : Tells reached (Reaches (way_net image) 0)

pub finished : (m : Model) (image : List ℕ) {opened nodes : List Node} {saves starts reached : List Bool} (count : ℕ)
    → count ≡ min (length image) 8192 / 8
    → Tabled no_node opened (λ i. opened_at m i (instruction_at image i)) 1024
    → Tabled false saves (λ i. is_save (role_in (instruction_at image i))) 1024
    → Tells reached (Reaches (tabled opened) 0)
    → Tabled false starts (started_after (take count saves) reached) 1024
    → length nodes ≡ 1024
    → ((k : ℕ) → k < 1024 → node_at nodes k ≡ closed (get_or (take count saves) k false) (node_at opened k))
    → Finished m image nodes starts reached
finished m image {opened} {nodes} {saves} {starts} {reached} count same o t r s size c =
    let told = saves_in image saves count same t in
    let all = reaches_told image opened o.size (opened_ways m image opened o) reached r in
    record {
      nodes_told = charted m image (take count saves) size o told c;
      size = s.size;
      starts_begin = begins_told image reached all starts (started_charted image (take count saves) reached told starts s);
      reached_all = all;
    }

pub finished_chart : (m : Model) (image : List ℕ) {nodes : List Node} {starts reached : List Bool} → Finished m image nodes starts reached
    → Lawful image → ChartOf (graph_of m image) nodes starts
finished_chart m image {nodes} {starts} f lawful = record {
  described = chart_described m image lawful nodes f.nodes_told;
  beyond = chart_ends m image lawful nodes f.nodes_told;
  told = starts_told m image lawful starts f.starts_begin;
}
