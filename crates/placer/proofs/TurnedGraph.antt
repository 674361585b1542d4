-- The certifier's answer about an image with idle slots turned into saves is that about the turned graph.
use Rattle.std.proofs.Common.{◌≡◌, ℕ, ◌≤◌, Bool, List, ap, ◌∙◌}
use Rattle.pricing.specs.Model.{Model}
use Rattle.walks.specs.Graph.{Graph}
use Rattle.walks.specs.Certified.{certified}
use Rattle.walks.specs.ImageGraph.{graph_of}
use Rattle.walks.specs.Placing.{turned}
use Rattle.walks.proofs.TurnedImages.{turned_right}
use Rattle.certifier.specs.Certify.{result_of, and_then, certification, InOrder}
use Rattle.certifier.proofs.Admitting.{admitted}
use Rattle.placer.specs.Turn.{turned_image}
use Rattle.placer.proofs.ImageTurning.{turned_image_lem}

module _ (m : Model) (before : List ℕ) (budget room : ℕ) (order : InOrder before budget room) where
  abbrev g : Graph
  g = graph_of m before

  pub graph_turned : (P : ℕ → Bool) → graph_of m (turned_image P before) ≡ turned m.dearest g P
  graph_turned P = (turned_right m P before (turned_image P before) (turned_image_lem P before)).0

  pub order_turned : (P : ℕ → Bool) (space : ℕ) → 1024 ≤ space → InOrder (turned_image P before) budget space
  order_turned P space h =
      record {
        some = order.some;
        most = order.most;
        roomy = h;
        lawful = (turned_right m P before (turned_image P before) (turned_image_lem P before)).1 order.lawful;
      }

  pub certified_turned : (P : ℕ → Bool) (space : ℕ) → 1024 ≤ space
      → certification m (turned_image P before) budget space ≡ result_of (certified (turned m.dearest g P) budget)
  certified_turned P space h =
      ap (λ a. and_then a (result_of (certified (graph_of m (turned_image P before)) budget))) ((admitted (turned_image P before) budget space).1 (order_turned P space h))
      ∙ ap (λ (h : Graph). result_of (certified h budget)) (graph_turned P)
