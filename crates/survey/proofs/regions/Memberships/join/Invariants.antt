use Rattle.std.proofs.Common.{◌≡◌, ℕ, ◌<◌, ◌≤◌, if◌then◌else◌, false, slice_index_or}
use Rattle.survey.specs.Membership.{no_region, joining}
use Rattle.survey.proofs.regions.Memberships.join.Given as goal

-- the slots so far are taken, and the others as before
abbrev pub invariant-loop-slot : goal.invariant-loop-slot
invariant-loop-slot l =
    record {
      taken : (k : ℕ) → k < l.slot → slice_index_or l.self.list k no_region ≡ if slice_index_or l.region k false then joining (slice_index_or l.fn.self.list k no_region) l.start else slice_index_or l.fn.self.list k no_region;
      others : (k : ℕ) → l.slot ≤ k → slice_index_or l.self.list k no_region ≡ slice_index_or l.fn.self.list k no_region;
    }
