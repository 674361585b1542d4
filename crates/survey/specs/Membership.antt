-- The regions that a slot lies in. Assumes nothing.
--     nodes, starts              the slots of an image as walks go along them, and which of them are starts
--     Lies nodes starts slot n   slot n is a start, and the slot lies in its region: walks from it come to the slot
--     MemberBelow nodes starts slot n m     of the starts below n, m has the lowest in whose region the slot lies, and how many they are
--     Member nodes starts slot m            the same of all starts
--     no_region                  of a slot in no region
--     joining m n                of a slot that lies in the region of start n too, above those that m counts
use Rattle.std.specs.Prelude.{ℕ, ◌+◌, ◌-◌, ◌^◌, ◌<◌, min, Bool, List, Option, Some, None, MatchOption}
use Rattle.paths.specs.Net.{tabled}
use Rattle.paths.specs.declared.node.Node.{Node}
use Rattle.search.specs.Reach.{Reaches}
use Rattle.search.specs.Loops.{Least}
use Rattle.survey.specs.Counted.{Chosen, Counted}
use Rattle.survey.specs.declared.regions.Membership.{Membership}

pub record Lies (nodes : List Node) (starts : List Bool) (slot n : ℕ) : Type 0 where
  pub chosen : Chosen starts n
  pub reached : Reaches (tabled nodes) n slot

pub record MemberBelow (nodes : List Node) (starts : List Bool) (slot n : ℕ) (m : Membership) : Type 0 where
  pub lowest : MatchOption m.lowest ((s : ℕ) → s < n → Lies nodes starts slot s → ⊥) (λ s. (s < n) × Least (Lies nodes starts slot) s)
  pub count : Counted (Lies nodes starts slot) n m.count

abbrev pub Member : List Node → List Bool → ℕ → Membership → Type 0
Member nodes starts slot m = MemberBelow nodes starts slot 1024 m

abbrev pub no_region : Membership
no_region = record { lowest = None; count = 0 }

abbrev pub first_of : Option ℕ → ℕ → Option ℕ
first_of None n = Some n
first_of (Some s) n = Some s

abbrev pub joining : Membership → ℕ → Membership
joining m n = record { lowest = first_of m.lowest n; count = min (m.count + 1) (2 ^ 16 - 1) }
