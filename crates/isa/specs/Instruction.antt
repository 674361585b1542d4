-- What an instruction leads to, and what it is to a round. Assumes nothing.
--     next_of x, target_of x     the slot after an instruction, and the one that its offset names, counted from the slot after
--     ways_out x                 its ways out: the next slot and the target of a jump, each present or not
--     role_of x                  a save, an idle slot, EXIT, or any other
--     Registered x               its registers are among r0 to r10
use Rattle.std.specs.Prelude.{◌+◌, ◌≤◌, if◌then◌else◌, ℤ, pos, ◌+ℤ◌, Some, None, Option}
use Rattle.isa.specs.declared.kind.Kind.{Kind}
use Rattle.isa.specs.declared.kind.Kind.TheVariants.{Arithmetic, Branch, Jump, Call, Exit, Load, StoreImm, StoreReg}
use Rattle.isa.specs.declared.helper.Helper.{Helper}
use Rattle.isa.specs.declared.helper.Helper.TheVariants as helper
use Rattle.isa.specs.declared.instruction.Instruction.{Instruction}
use Rattle.isa.specs.declared.instruction.Role.{Role}
use Rattle.isa.specs.declared.instruction.Role.TheVariants as role
use Rattle.isa.specs.Helper.{holds, helper_of}

abbrev pub next_of : Instruction → ℤ
next_of x = pos (x.at + 1)

abbrev pub target_of : Instruction → ℤ
target_of x = pos (x.at + 1) +ℤ x.fields.offset

-- which of the two a kind takes: a conditional jump both, a jump the target, EXIT none, any other the next slot
abbrev pub ways_by : Kind → ℤ → ℤ → Option ℤ × Option ℤ
ways_by (Branch w t s) next target = (Some next, Some target)
ways_by Jump next target = (None, Some target)
ways_by Exit next target = (None, None)
ways_by (Arithmetic w o s) next target = (Some next, None)
ways_by Call next target = (Some next, None)
ways_by (Load z) next target = (Some next, None)
ways_by (StoreImm z) next target = (Some next, None)
ways_by (StoreReg z) next target = (Some next, None)

abbrev pub ways_out : Instruction → Option ℤ × Option ℤ
ways_out x = ways_by x.kind (next_of x) (target_of x)

abbrev pub role_of_call : Option Helper → Role
role_of_call (Some helper.Save) = role.Save
role_of_call (Some helper.NextReading) = role.Other
role_of_call (Some helper.Record) = role.Other
role_of_call None = role.Other

-- a save is CALL of the helper that saves, an idle slot JA with offset 0
abbrev pub role_by : Kind → ℤ → ℤ → Role
role_by Call offset imm = role_of_call (helper_of imm)
role_by Jump offset imm = if holds offset 0 then role.Idle else role.Other
role_by Exit offset imm = role.Exit
role_by (Arithmetic w o s) offset imm = role.Other
role_by (Branch w t s) offset imm = role.Other
role_by (Load z) offset imm = role.Other
role_by (StoreImm z) offset imm = role.Other
role_by (StoreReg z) offset imm = role.Other

abbrev pub role_of : Instruction → Role
role_of x = role_by x.kind x.fields.offset x.fields.imm

pub record Registered (x : Instruction) : Type 0 where
  pub dst : x.fields.dst ≤ 10
  pub src : x.fields.src ≤ 10
