-- The state of a run as C holds it. Assumes nothing.
--     ending_number_in e     an ending's number, 0 while the run goes on
--     Known σ                the ending of σ is one that a run comes to
use Rattle.std.specs.Prelude.{ℕ, ◌≤◌, Some, None, Option}
use Rattle.machine.specs.declared.ending.Ending.{Ending}
use Rattle.machine.specs.declared.state.State.{State}
use Rattle.machine.specs.Ending.{ending_number}

abbrev pub ending_number_in : Option Ending → ℕ
ending_number_in None = 0
ending_number_in (Some e) = ending_number e

abbrev pub Known : State → Type 0
Known σ = σ.ending ≤ 5
