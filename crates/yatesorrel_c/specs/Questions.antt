-- The questions to a rig from C. Assumes nothing.
--     counts_of r          what is told of the counts of the rig r
--     kept_record_in x     what is told of a record, or of why there is none
--     own_counts o, own_kept_record o     what is told where the call from C refuses by itself
use Rattle.std.specs.Prelude.{Some, None, Ok, Err, Result}
use Rattle.isa.specs.declared.refusal.Refusal.{Refusal}
use Rattle.machine.specs.declared.state.Record.{Record}
use Rattle.machine.specs.declared.state.State.{State}
use Rattle.machine.specs.State.{empty}
use Rattle.claims.specs.Rig.{Rig, begun}
use Rattle.supply.specs.declared.source.Source.{Source}
use Rattle.yatesorrel_c.specs.declared.told.Own.{Own}
use Rattle.yatesorrel_c.specs.declared.questions.PlainCounts.{PlainCounts}
use Rattle.yatesorrel_c.specs.declared.questions.PlainKeptRecord.{PlainKeptRecord}
use Rattle.yatesorrel_c.specs.Told.{told_in, own_told}
use Rattle.supply.specs.Source.{four_of}
use Rattle.yatesorrel_c.specs.Held.{sources}

abbrev pub counts_of : Rig Source State → PlainCounts
counts_of r =
    record {
      refusal = told_in None;
      charges = begun sources r;
      assured = (four_of r.supply).assured;
      saves = r.saves;
      cuts = r.cuts;
      attempts = r.attempts;
    }

abbrev pub own_counts : Own → PlainCounts
own_counts o = record { refusal = own_told o; charges = 0; assured = 0; saves = 0; cuts = 0; attempts = 0 }

abbrev pub kept_record_in : Result Record Refusal → PlainKeptRecord
kept_record_in (Ok x) = record { refusal = told_in None; kept = x }
kept_record_in (Err r) = record { refusal = told_in (Some r); kept = empty }

abbrev pub own_kept_record : Own → PlainKeptRecord
own_kept_record o = record { refusal = own_told o; kept = empty }
