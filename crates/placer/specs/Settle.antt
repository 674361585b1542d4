-- The idle slots that become saves. Assumes nothing.
--     AllSettled saving g budget count t u     u has the saves of t that are left once each node below count was tried as idle,
--                                  where the graph is accepted with all of them, and else all
--     settled m image budget       the idle slots of an image that become saves: none of them that could be left out, where the
--                                  image is accepted with all of them turned, and else all
use Rattle.std.specs.Prelude.{◌≡◌, ℕ, Bool, List, if◌then◌else◌}
use Rattle.pricing.specs.Model.{Model}
use Rattle.walks.specs.Graph.{Graph}
use Rattle.walks.specs.ImageGraph.{graph_of}
use Rattle.walks.specs.Placing.{idles, allowed, dropped, placed}
use Rattle.placer.specs.declared.turned.Turned.{Turned}
use Rattle.placer.specs.Turned.{marked}

abbrev pub AllSettled : ℕ → Graph → ℕ → ℕ → Turned → Turned → Type 0
AllSettled saving g budget count t u =
    let P = marked t.saves in
    let ok = allowed saving g budget in
    marked u.saves ≡ (if ok P then dropped ok count 0 P else P)

abbrev pub settled : Model → List ℕ → ℕ → ℕ → Bool
settled m image budget =
    let g = graph_of m image in
    if allowed m.dearest g budget (idles g) then placed m.dearest g budget else idles g
