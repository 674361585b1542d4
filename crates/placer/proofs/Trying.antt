-- The tables of a graph with idle nodes turned into saves, and a save tried as idle in them.
use Rattle.std.proofs.Common.{◌≡◌, ℕ, zero, suc, ◌+◌, ◌<◌, ◌≤◌, Bool, true, false, cond, not, ◌&&◌, eqb, List, [], length, get_or, set, sym, refl, ap, ◌∙◌, ⊎_elim, arith}
use lib.ListN.{get_or-eq_default}
use Rattle.std.proofs.lemmas.Bool.{cases_eq, cases_lt, cond-true, cond-false, and_left, and_right, and_from, not_from_true, eq-eqb, ne_eqb}
use Rattle.std.proofs.lemmas.Bool.Decides.{nat_tests}
use Rattle.std.proofs.lemmas.Grind.{common_steps}
use Rattle.std.proofs.lemmas.List.{length-set, get_or-set_same, get_or-set_other}
use Rattle.isa.specs.declared.instruction.Role.{Role}
use Rattle.isa.specs.declared.instruction.Role.TheVariants.{Save}
use Rattle.paths.specs.declared.node.Node.{Node}
use Rattle.paths.specs.Net.{ways_of, no_node, node_at}
use Rattle.walks.specs.Graph.{Graph, ending}
use Rattle.walks.specs.Certified.{is_save, started, certified}
use Rattle.walks.specs.Placing.{without, is_idle, idles, turned, is_accepted, allowed}
use Rattle.walks.proofs.Walking.{started_is, started_yes}
use Rattle.walks.proofs.Turning.{turned_sound}
use Rattle.certifier.specs.Fits.{TableOf}
use Rattle.placer.specs.declared.turned.Turned.{Turned}
use Rattle.placer.specs.declared.turned.Entry.{Entry}
use Rattle.placer.specs.Turned.{marked, turned_node, Plain, Turns, Written, Settled}

-- a node and its turned node, by role
turned_ways : (saving : ℕ) (r : Role) (b : Bool) (w : List ℕ) (x y : Node) → (b ≡ true → is_idle r ≡ true)
    → cond (ending r) [] w ≡ ways_of x.successors → y ≡ turned_node b saving x
    → cond (ending (cond (is_idle r && b) Save r)) [] w ≡ ways_of y.successors
turned_ways saving r b w x y h1 h2 h3 = grind arith

turned_price : (saving : ℕ) (r : Role) (b : Bool) (q : ℕ) (x y : Node) → (b ≡ true → is_idle r ≡ true)
    → q ≡ x.price → y ≡ turned_node b saving x → cond (is_idle r && b) saving q ≡ y.price
turned_price saving r b q x y h1 h2 h3 = grind arith

turned_slot : (saving : ℕ) (b : Bool) (s : ℕ) (x y : Node) → s ≡ x.slot → y ≡ turned_node b saving x → s ≡ y.slot
turned_slot saving b s x y h1 h2 = grind arith

-- past the graph there is no way out, of a save neither
turned_end : (b : Bool) (saving : ℕ) (x y : Node) → ways_of x.successors ≡ [] → y ≡ turned_node b saving x → ways_of y.successors ≡ []
turned_end b saving x y h1 h2 = grind arith

price_most : (b : Bool) (saving q most : ℕ) → saving ≤ most → q ≤ most → cond b saving q ≤ most
price_most b saving q most h1 h2 = grind arith

module _ (saving : ℕ) (g : Graph) (plain : List Node) (p : Plain saving g plain) where
  pub tables_turned : (t : Turned) → Turns saving g plain t → TableOf (turned saving g (marked t.saves)) t.nodes t.starts
  tables_turned t turns =
      let P = marked t.saves in
      let h = turned saving g P in
      let sound = turned_sound saving g p.placeable P in
      record {
        sound = sound;
        most = p.most;
        small = record { each = λ n. price_most (idles g n && P n) saving (g.price n) p.most p.paid (p.small.each n); all = p.small.all };
        size = p.size;
        described = λ n l.
            let d = p.described n l in
            let small = p.size in
            let e = turns.nodes n (omega arith) in
            record {
              ways = turned_ways saving (g.role n) (P n) (g.ways n) (node_at plain n) (node_at t.nodes n) (turns.idle n) d.ways e;
              price = turned_price saving (g.role n) (P n) (g.price n) (node_at plain n) (node_at t.nodes n) (turns.idle n) d.price e;
              slot = turned_slot saving (P n) (g.slot n) (node_at plain n) (node_at t.nodes n) d.slot e;
            };
        beyond = λ n le. ⊎_elim
            (λ (l : n < 1024). turned_end (P n) saving (node_at plain n) (node_at t.nodes n) (p.beyond n le) (turns.nodes n l))
            (λ (past : 1024 ≤ n). let long = turns.sized.0 in ap (λ (x : Node). ways_of x.successors) (get_or-eq_default t.nodes no_node (omega arith)))
            (cases_lt n 1024);
        told = λ n l.
            let e = turns.starts n l in
            (λ yes. started_is h sound n (sym e ∙ yes), λ start. e ∙ started_yes h sound n start);
      }

without_here : (n at : ℕ) (P : ℕ → Bool) → n ≡ at → without at P n ≡ false
without_here n at P e = and_left (not (eqb n at)) (P n) (not_from_true (eqb n at) (eq-eqb n at e))

without_other : (n at : ℕ) (P : ℕ → Bool) → (n ≡ at → ⊥) → without at P n ≡ P n
without_other n at P ne = ap (λ (b : Bool). not b && P n) (ne_eqb n at ne)

set_false : (xs : List Bool) (at : ℕ) (b : Bool) → b ≡ false → get_or (set xs at b) at false ≡ false
set_false xs at b h1 = grind (arith, nat_tests, common_steps)

-- a test of one node, by its role
started_same : (r : Role) (b c reached : Bool) → b ≡ c
    → (let there = reached in is_save (cond (is_idle r && b) Save r) && there) ≡ (let there = reached in is_save (cond (is_idle r && c) Save r) && there)
started_same r b c reached e = ap (λ (x : Bool). is_save (cond (is_idle r && x) Save r) && reached) e

started_idle : (r : Role) (b reached : Bool) → is_idle r ≡ true → b ≡ false → false ≡ (is_save (cond (is_idle r && b) Save r) && reached)
started_idle r b reached h1 h2 = grind arith

-- tables with the same entries
pub record Same (t u : Turned) : Type 0 where
  pub nodes : u.nodes ≡ t.nodes
  pub saves : u.saves ≡ t.saves
  pub starts : u.starts ≡ t.starts

module _ (mid : Turned) (at : ℕ) (former : Entry) (t u : Turned) where
  pub restored : Written mid at former t → Written mid at former u → Same t u
  restored a b = record { nodes = b.nodes ∙ sym a.nodes; saves = b.saves ∙ sym a.saves; starts = b.starts ∙ sym a.starts }

module _ (at : ℕ) (entry : Entry) (t v : Turned) (same : Same t v) (mid u : Turned) where
  pub again : Written t at entry mid → Written v at entry u → Same mid u
  again a b =
      record {
        nodes = b.nodes ∙ ap (λ (xs : List Node). set xs at entry.node) same.nodes ∙ sym a.nodes;
        saves = b.saves ∙ ap (λ (xs : List Bool). set xs at entry.save) same.saves ∙ sym a.saves;
        starts = b.starts ∙ ap (λ (xs : List Bool). set xs (at + 1) entry.start) same.starts ∙ sym a.starts;
      }

module _ (saving : ℕ) (g : Graph) (plain : List Node) where
  same_turns : (t u : Turned) → Same t u → Turns saving g plain t → Turns saving g plain u
  same_turns t u same turns =
      record {
        sized = (ap length same.nodes ∙ turns.sized.0, ap length same.starts ∙ turns.sized.1);
        idle = λ n e. turns.idle n (ap (λ (xs : List Bool). marked xs n) (sym same.saves) ∙ e);
        nodes = λ n h.
            ap (λ (xs : List Node). node_at xs n) same.nodes ∙ turns.nodes n h
            ∙ ap (λ (xs : List Bool). turned_node (marked xs n) saving (node_at plain n)) (sym same.saves);
        starts = λ n h.
            ap (λ (xs : List Bool). marked xs n) same.starts ∙ turns.starts n h
            ∙ ap (λ (xs : List Bool). started (turned saving g (marked xs)) n) (sym same.saves);
      }

  module _ (t u : Turned) (turns : Turns saving g plain t) (at : ℕ) (saved : marked t.saves at ≡ true) (there : at + 1 < 1024)
      (entry : Entry) (node : entry.node ≡ node_at plain at) (save : entry.save ≡ false) (start : entry.start ≡ false)
      (written : Written t at entry u) where
    mark_here : marked u.saves at ≡ false
    mark_here = ap (λ (xs : List Bool). marked xs at) written.saves ∙ set_false t.saves at entry.save save

    mark_other : (n : ℕ) → (n ≡ at → ⊥) → marked u.saves n ≡ marked t.saves n
    mark_other n ne = ap (λ (xs : List Bool). marked xs n) written.saves ∙ get_or-set_other t.saves at n entry.save false ne

    saves_after : (n : ℕ) → marked u.saves n ≡ without at (marked t.saves) n
    saves_after n =
        ⊎_elim (λ (e : n ≡ at). ap (marked u.saves) e ∙ mark_here ∙ sym (without_here n at (marked t.saves) e))
        (λ (ne : n ≡ at → ⊥). mark_other n ne ∙ sym (without_other n at (marked t.saves) ne))
        (cases_eq n at)

    starts_after : (n : ℕ) → n < 1024 → marked u.starts n ≡ started (turned saving g (marked u.saves)) n
    starts_after zero h =
        ap (λ (xs : List Bool). marked xs 0) written.starts ∙ get_or-set_other t.starts (at + 1) 0 entry.start false (λ e. omega arith) ∙ turns.starts 0 h
    starts_after (suc n) h =
        ⊎_elim
        (λ (e : n ≡ at).
        let mark : marked u.saves n ≡ false = ap (marked u.saves) e ∙ mark_here in
        let idle : is_idle (g.role n) ≡ true = turns.idle n (ap (marked t.saves) e ∙ saved) in
        let same : suc n ≡ at + 1 = omega arith in
        let long = turns.sized.1 in
        ap (λ (xs : List Bool). marked xs (suc n)) written.starts
        ∙ ap (marked (set t.starts (at + 1) entry.start)) same
        ∙ get_or-set_same t.starts (at + 1) entry.start false (omega arith) ∙ start ∙ started_idle (g.role n) (marked u.saves n) _ idle mark)
        (λ (ne : n ≡ at → ⊥).
        ap (λ (xs : List Bool). marked xs (suc n)) written.starts
        ∙ get_or-set_other t.starts (at + 1) (suc n) entry.start false (λ e. omega arith) ∙ turns.starts (suc n) h
        ∙ started_same (g.role n) (marked t.saves n) (marked u.saves n) _ (sym (mark_other n ne)))
        (cases_eq n at)

    nodes_after : (n : ℕ) → n < 1024 → node_at u.nodes n ≡ turned_node (marked u.saves n) saving (node_at plain n)
    nodes_after n h =
        ⊎_elim
        (λ (e : n ≡ at).
        let mark : marked u.saves n ≡ false = ap (marked u.saves) e ∙ mark_here in
        let long = turns.sized.0 in
        ap (λ (xs : List Node). node_at xs n) written.nodes ∙ ap (node_at (set t.nodes at entry.node)) e
        ∙ get_or-set_same t.nodes at entry.node no_node (omega arith) ∙ node ∙ ap (node_at plain) (sym e)
        ∙ sym (cond-false _ _ _ mark))
        (λ (ne : n ≡ at → ⊥).
        ap (λ (xs : List Node). node_at xs n) written.nodes ∙ get_or-set_other t.nodes at n entry.node no_node ne ∙ turns.nodes n h
        ∙ ap (λ (b : Bool). turned_node b saving (node_at plain n)) (sym (mark_other n ne)))
        (cases_eq n at)

    turns_after : Turns saving g plain u
    turns_after =
        record {
          sized = (ap length written.nodes ∙ length-set t.nodes at entry.node ∙ turns.sized.0, ap length written.starts ∙ length-set t.starts (at + 1) entry.start ∙ turns.sized.1);
          idle = λ n e. ⊎_elim (λ (same : n ≡ at). turns.idle n (ap (marked t.saves) same ∙ saved)) (λ (ne : n ≡ at → ⊥). turns.idle n (sym (mark_other n ne) ∙ e)) (cases_eq n at);
          nodes = nodes_after;
          starts = starts_after;
        }

-- what a trial of a node settles
module _ (saving : ℕ) (g : Graph) (plain : List Node) (p : Plain saving g plain) (budget at : ℕ) (t : Turned) (turns : Turns saving g plain t) where
  pub settled_not : marked t.saves at ≡ false → Settled saving g plain budget at t t
  settled_not idle = record { saves = sym (cond-false _ _ _ (and_left _ _ idle)); turns = turns }

  module _ (saved : marked t.saves at ≡ true) (there : at + 1 < 1024) (x : Node) (plainly : node_at plain at ≡ x) (mid : Turned)
      (written : Written t at (record { node = x; save = false; start = false }) mid)
      (count : ℕ) (inside : g.size ≤ count)
      (stands : Bool) (answer : (h : Graph) → TableOf h mid.nodes mid.starts → h.size ≤ count → stands ≡ is_accepted (certified h budget)) where
    abbrev P : ℕ → Bool
    P = marked t.saves

    after : Turns saving g plain mid
    after = turns_after saving g plain t mid turns at saved there (record { node = x; save = false; start = false }) (sym plainly) refl refl written

    left_out : marked mid.saves ≡ without at P
    left_out = λ j n. saves_after saving g plain t mid turns at saved there (record { node = x; save = false; start = false }) (sym plainly) refl refl written n j

    tested : stands ≡ allowed saving g budget (without at P)
    tested = answer (turned saving g (marked mid.saves)) (tables_turned saving g plain p mid after) inside ∙ ap (allowed saving g budget) left_out

    pub settled_idle : stands ≡ true → (u : Turned) → Same mid u → Settled saving g plain budget at t u
    settled_idle fits u same =
        record {
          saves = ap marked same.saves ∙ left_out ∙ sym (cond-true _ _ _ (and_from (P at) (allowed saving g budget (without at P)) saved (sym tested ∙ fits)));
          turns = same_turns saving g plain mid u same after;
        }

    pub settled_save : stands ≡ false → (u : Turned) → Same t u → Settled saving g plain budget at t u
    settled_save fails u same =
        record {
          saves = ap marked same.saves ∙ sym (cond-false _ _ _ (and_right (P at) (allowed saving g budget (without at P)) (sym tested ∙ fails)));
          turns = same_turns saving g plain t u same turns;
        }
