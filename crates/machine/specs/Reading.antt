-- Reading a state from outside. Assumes nothing.
--     register_in σ r     the value of r0 to r10, or none
--     byte_in σ a         the byte of memory at an address, or none
--     record_in σ i       the record of that number in the log, or none
use Rattle.std.specs.Prelude.{ℕ, if◌then◌else◌, ◌&&◌, Some, None, Option, nat_le, nat_lt, slice_index, slice_index_or}
use Rattle.machine.specs.declared.state.Record.{Record}
use Rattle.machine.specs.declared.state.State.{State}
use Rattle.machine.specs.State.{empty, register_of}

abbrev pub register_in : State → ℕ → Option ℕ
register_in σ r = if nat_le r 10 then Some (register_of σ r) else None

abbrev pub byte_in : State → ℕ → Option ℕ
byte_in σ a = if nat_lt a 512 then Some (slice_index σ.memory a) else None

abbrev pub record_in : State → ℕ → Option Record
record_in σ i = if nat_lt i σ.logged && nat_lt i 64 then Some (slice_index_or σ.log i empty) else None
