-- What a rig refuses before it steps or is cut. Assumes nothing.
--     Allowed κ made limit all a     the answer a of a rig of the kept state κ where so many were made of at most `limit`: refused once
--                                    the round has ended, then by `all` where all were made
use Rattle.std.specs.Prelude.{◌≡◌, ℕ, ◌<◌, ◌≤◌, true, false, Ok, Err, Result}
use Rattle.isa.specs.declared.refusal.Refusal.{Refusal}
use Rattle.isa.specs.declared.refusal.Refusal.TheVariants.{Ended}
use Rattle.machine.specs.declared.state.State.{State}
use Rattle.machine.specs.State.{ended}

pub data Allowed (κ : State) (made limit : ℕ) (all : Refusal) (a : Result (Unit {0}) Refusal) : Type 0 where
  over : ended κ ≡ true → a ≡ Err Ended → Allowed κ made limit all a
  all_made : ended κ ≡ false → limit ≤ made → a ≡ Err all → Allowed κ made limit all a
  allowed : ended κ ≡ false → made < limit → a ≡ Ok tt → Allowed κ made limit all a
