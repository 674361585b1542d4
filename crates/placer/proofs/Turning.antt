-- The tables of an image with every idle slot turned into a save.
use Rattle.std.proofs.Common.{◌≡◌, ℕ, zero, suc, ◌+◌, ◌<◌, ◌≤◌, Bool, true, false, cond, ◌&&◌, ◌||◌, List, [], ◌∷◌, length, sym, refl, ap, ◌∙◌, inl, ⊎_elim, true≢false, arith}
use mathlib.Core.Path.{subst⁻¹}
use lib.ListN.{get_or-eq_default}
use Rattle.std.proofs.lemmas.Bool.{cases_lt}
use Rattle.isa.specs.declared.instruction.Role.{Role}
use Rattle.isa.specs.declared.instruction.Role.TheVariants.{Save, Idle}
use Rattle.isa.specs.Slot.{slot_count}
use Rattle.isa.specs.Lawful.{Lawful}
use Rattle.pricing.specs.Model.{Model}
use Rattle.paths.specs.declared.node.Node.{Node}
use Rattle.paths.specs.Net.{In, node_at}
use Rattle.walks.specs.Graph.{Graph}
use Rattle.walks.specs.Walk.{Reachable, Start}
use Rattle.walks.specs.Reached.{reached}
use Rattle.walks.specs.Certified.{is_save, started}
use Rattle.walks.specs.ImageGraph.{role_at, graph_of}
use Rattle.walks.specs.Placing.{Within, is_idle, turned}
use Rattle.walks.proofs.Imaging.{idles_at, inside_at, lawful_sound}
use Rattle.walks.proofs.Walking.{started_is, started_yes, reached_is, reached_yes}
use Rattle.search.specs.Reach.{Tells}
use Rattle.tables.specs.Node.{Tabled}
use Rattle.tables.proofs.Describing.{slots_small}
use Rattle.placer.specs.declared.turned.Turned.{Turned}
use Rattle.placer.specs.Turn.{idles_in}
use Rattle.placer.specs.Turned.{marked, turned_node, turned_start, Turns}
use Rattle.placer.proofs.Idling.{idle_there}

idle_only : (r : Role) → is_idle r ≡ true → r ≡ Idle
idle_only r e = grind arith

same_test : (a b : Bool) → (a ≡ true → b ≡ true) → (b ≡ true → a ≡ true) → a ≡ b
same_test a b h1 h2 = grind arith

start_turned : (r : Role) (b there old : Bool) → b ≡ is_idle r → old ≡ (is_save r && there)
    → (old || (b && there)) ≡ (is_save (cond (is_idle r && b) Save r) && there)
start_turned r b there old h1 h2 = grind arith

module _ (image : List ℕ) (lawful : Lawful image) (idle : List Bool) (table : Tabled false idle (idles_in image) 1024) where
  idle_below : (n : ℕ) → marked idle n ≡ true → n < 1024
  idle_below n e =
      ⊎_elim (λ (h : n < 1024). h)
      (λ (h : 1024 ≤ n). let long = table.size in absurd (true≢false (sym e ∙ get_or-eq_default idle false (omega arith))))
      (cases_lt n 1024)

  idle_within : Within (marked idle) (idles_in image)
  idle_within n e = sym (table.holds n (idle_below n e)) ∙ e

  marked_is : (n : ℕ) → marked idle n ≡ idles_in image n
  marked_is n =
      same_test (marked idle n) (idles_in image n) (idle_within n)
      (λ e.
      let there = (idle_there image n e).1 in
      let small = slots_small image lawful in
      table.holds n (omega arith) ∙ e)

  pub idle_all : marked idle ≡ idles_in image
  idle_all = λ j n. marked_is n j

  -- an idle slot leads to the next one
  pub idle_inside : (n : ℕ) → marked idle n ≡ true → n + 1 < 1024
  idle_inside n e =
      let there : In (suc n) (suc n ∷ []) = inl refl in
      let ways = idles_at image n (idle_only (role_at image n) (idle_within n e)) in
      let next : suc n < slot_count image = inside_at image n lawful (suc n) (subst⁻¹ (λ (l : List ℕ). In (suc n) l) ways there) in
      let small = slots_small image lawful in
      omega arith

  module _ (m : Model) (starts reaches : List Bool) (told : Tells starts (Start (graph_of m image))) (reach : Tells reaches (Reachable (graph_of m image))) where
    abbrev g : Graph
    g = graph_of m image

    start_is : (n : ℕ) → n < 1024 → marked starts n ≡ started g n
    start_is n h =
        let sound = lawful_sound m image lawful in
        let t = told n h in
        same_test (marked starts n) (started g n) (λ e. started_yes g sound n (t.0 e)) (λ e. t.1 (started_is g sound n e))

    reach_is : (n : ℕ) → n < 1024 → marked reaches n ≡ reached g n
    reach_is n h =
        let sound = lawful_sound m image lawful in
        let t = reach n h in
        same_test (marked reaches n) (reached g n) (λ e. reached_yes g sound n (t.0 e)) (λ e. t.1 (reached_is g sound n e))

    starts_turned : (saving n : ℕ) → n < 1024 → turned_start starts idle reaches n ≡ started (turned saving g (marked idle)) n
    starts_turned saving zero h = start_is 0 h
    starts_turned saving (suc n) h =
        ap (λ (b : Bool). marked starts (suc n) || (marked idle n && b)) (reach_is n (omega arith))
        ∙ start_turned (g.role n) (marked idle n) (reached g n) (marked starts (suc n)) (table.holds n (omega arith)) (start_is (suc n) h)

    pub all_turned : (saving : ℕ) (plain : List Node) (t : Turned) → t.saves ≡ idle → length t.nodes ≡ 1024 → length t.starts ≡ 1024
        → ((n : ℕ) → n < 1024 → node_at t.nodes n ≡ turned_node (marked idle n) saving (node_at plain n))
        → ((n : ℕ) → n < 1024 → marked t.starts n ≡ turned_start starts idle reaches n)
        → Turns saving g plain t
    all_turned saving plain t saves long-nodes long-starts nodes begins =
        record {
          sized = (long-nodes, long-starts);
          idle = λ n e. idle_within n (ap (λ (xs : List Bool). marked xs n) (sym saves) ∙ e);
          nodes = λ n h. nodes n h ∙ ap (λ (xs : List Bool). turned_node (marked xs n) saving (node_at plain n)) (sym saves);
          starts = λ n h.
              begins n h ∙ starts_turned saving n h ∙ ap (λ (xs : List Bool). started (turned saving g (marked xs)) n) (sym saves);
        }
