use Rattle.std.proofs.Common.{◌≡◌, None}
use Rattle.isa.specs.First.{first_below}
use Rattle.isa.specs.Lawful.{fault_at, leaving_at}
use Rattle.isa.proofs.lawful.lawful.Given as goal

-- no slot so far breaks a rule on it alone, and what is kept is the first that a way out leaves by
abbrev pub invariant-loop-slot : goal.invariant-loop-slot
invariant-loop-slot l =
    (first_below (fault_at l.image) l.slot ≡ None) × (l.leaving ≡ first_below (leaving_at l.image l.count) l.slot)
