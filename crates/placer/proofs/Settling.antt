-- The saves tried one after another are the nodes dropped one after another.
use Rattle.std.proofs.Common.{◌≡◌, ℕ, suc, ◌+◌, ◌-◌, ◌*◌, ◌<◌, ◌≤◌, Bool, List, sym, ap, ◌∙◌, arith}
use Rattle.isa.specs.Lawful.{Lawful}
use Rattle.pricing.specs.Model.{Model, Bounded}
use Rattle.paths.specs.declared.node.Node.{Node}
use Rattle.walks.specs.Graph.{Graph}
use Rattle.walks.specs.ImageGraph.{graph_of}
use Rattle.walks.proofs.Imaging.{lawful_placeable, lawful_small}
use Rattle.tables.specs.Chart.{ChartOf}
use Rattle.tables.proofs.Describing.{slots_small}
use Rattle.walks.specs.Certified.{certified}
use Rattle.walks.specs.Placing.{turned, is_accepted, allowed, dropped}
use Rattle.certifier.specs.Fits.{TableOf}
use Rattle.placer.specs.declared.turned.Turned.{Turned}
use Rattle.placer.specs.Turned.{marked, Plain, Turns, Settled}
use Rattle.placer.proofs.Trying.{tables_turned}

pub plain_of : (m : Model) → Bounded m → (image : List ℕ) → Lawful image
    → (plain : List Node) (starts : List Bool) → ChartOf (graph_of m image) plain starts → Plain m.dearest (graph_of m image) plain
plain_of m bounded image lawful plain starts chart =
    record {
      placeable = lawful_placeable m image lawful;
      most = 2 * 65535;
      small = lawful_small m bounded image lawful;
      paid = let small = bounded.dearest_small in omega arith;
      size = slots_small image lawful;
      described = chart.described;
      beyond = chart.beyond;
    }

module _ (saving : ℕ) (g : Graph) (plain : List Node) (budget : ℕ) where
  pub tested : Plain saving g plain → (t : Turned) → Turns saving g plain t
      → (count : ℕ) → g.size ≤ count
      → (fit : Bool) → ((h : Graph) → TableOf h t.nodes t.starts → h.size ≤ count → fit ≡ is_accepted (certified h budget))
      → fit ≡ allowed saving g budget (marked t.saves)
  tested p t turns count inside fit answer = answer (turned saving g (marked t.saves)) (tables_turned saving g plain p t turns) inside

  -- one node more
  pub settled_more : (count i : ℕ) (here out : Turned) → i < count → Settled saving g plain budget i here out
      → dropped (allowed saving g budget) (count - (i + 1)) (i + 1) (marked out.saves) ≡ dropped (allowed saving g budget) (count - i) i (marked here.saves)
  settled_more count i here out h settled =
      let left : count - i ≡ suc (count - (i + 1)) = omega arith in
      let next : i + 1 ≡ suc i = omega arith in
      let ok = allowed saving g budget in
      ap (λ (n : ℕ). dropped ok (count - (i + 1)) n (marked out.saves)) next
      ∙ ap (dropped ok (count - (i + 1)) (suc i)) settled.saves
      ∙ ap (λ (k : ℕ). dropped ok k i (marked here.saves)) (sym left)
