-- What walks say of a lawful image, as a page shows it. Assumes nothing.
--     Surveyed m image left s     s has the slots of the image as walks go along them, at the prices of the model m, the starts of
--                                 walks, the regions that each slot lies in, and the worths that were left
--     worth_in worths n           what the dearest walk from slot n costs; none where there are no worths
--     onward_in worths nodes n    where the dearest walk goes on from slot n; none where there are no worths
--     DearestOf starts worths o   o is the start with the dearest walk; none where there are no worths
--     DearestPrice starts worths o      o is what that walk costs; none where there are no worths
--     row_at nodes n before       the row of slot n, where the slots before it cost so much together
--     row_after s r               the row after r in the dearest walk; none where the walk ends
use Rattle.std.specs.Prelude.{◌≡◌, ℕ, ◌+◌, ◌-◌, ◌^◌, ◌<◌, min, Bool, List, Option, Some, None, MatchOption, option_map, slice_index_or}
use Rattle.isa.specs.Image.{instruction_at}
use Rattle.pricing.specs.Model.{Model}
use Rattle.paths.specs.declared.node.Node.{Node}
use Rattle.paths.specs.declared.worth.Worth.{Worth}
use Rattle.paths.specs.Net.{no_node, node_at}
use Rattle.search.specs.Reach.{Tells}
use Rattle.tables.specs.Node.{Tabled}
use Rattle.tables.specs.Start.{Begins}
use Rattle.tables.specs.Walk.{walk_node}
use Rattle.headroom.specs.Stretch.{worth_at, next_on, Dearest}
use Rattle.survey.specs.Membership.{Member, no_region}
use Rattle.survey.specs.declared.survey.Row.{Row}
use Rattle.survey.specs.declared.survey.Survey.{Survey}

pub record Surveyed (m : Model) (image : List ℕ) (left : Option (List Worth)) (s : Survey) : Type 0 where
  pub nodes : Tabled no_node s.nodes (λ i. walk_node m i (instruction_at image i)) 1024
  pub starts : Tells s.starts (Begins image)
  pub memberships : (slot : ℕ) → slot < 1024 → Member s.nodes s.starts slot (slice_index_or s.memberships.list slot no_region)
  pub worths : s.worths ≡ left

abbrev pub worth_in : Option (List Worth) → ℕ → Option ℕ
worth_in None n = None
worth_in (Some worths) n = Some (worth_at worths n).price

abbrev pub onward_in : Option (List Worth) → List Node → ℕ → Option ℕ
onward_in None nodes n = None
onward_in (Some worths) nodes n = next_on worths (node_at nodes n).successors

abbrev pub DearestOf : List Bool → Option (List Worth) → Option ℕ → Type 0
DearestOf starts worths None = worths ≡ None
DearestOf starts worths (Some n) = MatchOption worths ⊥ (λ ws. Dearest starts ws n)

abbrev pub DearestPrice : List Bool → Option (List Worth) → Option ℕ → Type 0
DearestPrice starts worths None = worths ≡ None
DearestPrice starts worths (Some price) = MatchOption worths ⊥ (λ ws. (n : ℕ) × Dearest starts ws n × (price ≡ (worth_at ws n).price))

abbrev pub row_at : List Node → ℕ → ℕ → Row
row_at nodes n before = record { slot = n; sum = min (before + (node_at nodes n).price) (2 ^ 64 - 1) }

abbrev pub row_after : Survey → Row → Option Row
row_after s r = option_map (λ n. row_at s.nodes n r.sum) (onward_in s.worths s.nodes r.slot)
