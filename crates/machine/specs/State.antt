-- The state of a run. Assumes nothing.
--     initial                  where every run begins: slot 0, r10 at the end of memory, all else 0 or empty
--     register_of σ r          the value of a register
--     moved_to σ z             σ at another slot
--     with_register σ r v      σ with another value in a register
--     with_memory σ m          σ with another memory
--     with_place σ n           σ at another place of the tape
--     with_record σ x          σ with one more record in its log
--     ended_by σ e             σ with an ending, and nothing else changed
--     ending_of σ              how σ has ended, or none
--     ended σ                  σ has an ending
use Rattle.std.specs.Prelude.{ℕ, ◌+◌, Bool, not, List, replicate, ℤ, pos, Option, nat_eq, slice_index, slice_set}
use Rattle.machine.specs.declared.ending.Ending.{Ending}
use Rattle.machine.specs.declared.state.Record.{Record}
use Rattle.machine.specs.declared.state.State.{State}
use Rattle.machine.specs.Ending.{ending_number, ending_in}

abbrev pub empty : Record
empty = record { sensor = 0; value = 0 }

abbrev pub initial : State
initial =
    record {
      slot = pos 0;
      regs = slice_set (replicate 11 0) 10 512;
      memory = replicate 512 0;
      place = 0;
      log = replicate 64 empty;
      logged = 0;
      ending = 0;
    }

abbrev pub register_of : State → ℕ → ℕ
register_of σ r = slice_index σ.regs r

abbrev pub ending_of : State → Option Ending
ending_of σ = ending_in σ.ending

abbrev pub ended : State → Bool
ended σ = not (nat_eq σ.ending 0)

abbrev pub moved_to : State → ℤ → State
moved_to σ z =
    record { slot = z; regs = σ.regs; memory = σ.memory; place = σ.place; log = σ.log; logged = σ.logged; ending = σ.ending }

abbrev pub with_register : State → ℕ → ℕ → State
with_register σ r v =
    record { slot = σ.slot; regs = slice_set σ.regs r v; memory = σ.memory; place = σ.place; log = σ.log; logged = σ.logged; ending = σ.ending }

abbrev pub with_memory : State → List ℕ → State
with_memory σ m =
    record { slot = σ.slot; regs = σ.regs; memory = m; place = σ.place; log = σ.log; logged = σ.logged; ending = σ.ending }

abbrev pub with_place : State → ℕ → State
with_place σ n =
    record { slot = σ.slot; regs = σ.regs; memory = σ.memory; place = n; log = σ.log; logged = σ.logged; ending = σ.ending }

abbrev pub with_record : State → Record → State
with_record σ x =
    record { slot = σ.slot; regs = σ.regs; memory = σ.memory; place = σ.place; log = slice_set σ.log σ.logged x; logged = σ.logged + 1; ending = σ.ending }

abbrev pub ended_by : State → Ending → State
ended_by σ e =
    record { slot = σ.slot; regs = σ.regs; memory = σ.memory; place = σ.place; log = σ.log; logged = σ.logged; ending = ending_number e }
