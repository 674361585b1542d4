use Rattle.std.proofs.Common.{ℕ, ◌<◌, slice_index_or}
use Rattle.survey.specs.Membership.{no_region, MemberBelow}
use Rattle.survey.proofs.regions.Memberships.of.Given as goal

-- of each slot the regions of the starts so far
abbrev pub invariant-loop-start : goal.invariant-loop-start
invariant-loop-start l = (slot : ℕ) → slot < 1024 → MemberBelow l.nodes l.starts slot l.start (slice_index_or l.memberships.list slot no_region)
