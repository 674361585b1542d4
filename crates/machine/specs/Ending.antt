-- How a run ends. Assumes nothing.
--     number_of t         the number of a trap
--     ending_number e     that of an ending: a trap's own, 5 for EXIT
--     ending_in n         the ending of a number: none for 0, EXIT for every number past the traps'
use Rattle.std.specs.Prelude.{ℕ, if◌then◌else◌, Some, None, Option, nat_eq}
use Rattle.machine.specs.declared.ending.Ending.{Ending}
use Rattle.machine.specs.declared.ending.Ending.TheVariants.{Exit, Trap as Trapped}
use Rattle.machine.specs.declared.ending.Trap.{Trap}
use Rattle.machine.specs.declared.ending.Trap.TheVariants.{BadSlot, OutsideMemory, TapeFinished, LogFull}

abbrev pub number_of : Trap → ℕ
number_of BadSlot = 1
number_of OutsideMemory = 2
number_of TapeFinished = 3
number_of LogFull = 4

abbrev pub ending_number : Ending → ℕ
ending_number (Trapped t) = number_of t
ending_number Exit = 5

abbrev pub ending_in : ℕ → Option Ending
ending_in n =
    if nat_eq n 0
    then None
    else if nat_eq n 1
    then Some (Trapped BadSlot)
    else if nat_eq n 2
    then Some (Trapped OutsideMemory)
    else if nat_eq n 3
    then Some (Trapped TapeFinished)
    else if nat_eq n 4
    then Some (Trapped LogFull)
    else Some Exit
