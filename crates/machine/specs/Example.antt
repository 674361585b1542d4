-- A small round whose whole run is known. Assumes nothing.
--     small_round      r1 = 7, the next reading, r2 = r0, an idle slot, a record, EXIT
--     Known image      over the tape 5, the run of an image ends by EXIT with its sixth step, and its log is sensor 7 with value 5
use Rattle.std.specs.Prelude.{◌≡◌, ℕ, List, [], ◌∷◌, Some, None}
use Rattle.machine.specs.declared.ending.Ending.TheVariants.{Exit}
use Rattle.machine.specs.declared.state.State.{State}
use Rattle.machine.specs.Process.{EndsAfter}
use Rattle.machine.specs.Run.{mains}
use Rattle.machine.specs.Reading.{record_in}
use Rattle.machine.specs.State.{ending_of}

abbrev pub small_round : List ℕ
small_round =
    0xb7 ∷ 0x01 ∷ 0 ∷ 0 ∷ 7 ∷ 0 ∷ 0 ∷ 0
    ∷ 0x85 ∷ 0x00 ∷ 0 ∷ 0 ∷ 2 ∷ 0 ∷ 0 ∷ 0
    ∷ 0xbf ∷ 0x02 ∷ 0 ∷ 0 ∷ 0 ∷ 0 ∷ 0 ∷ 0
    ∷ 0x05 ∷ 0x00 ∷ 0 ∷ 0 ∷ 0 ∷ 0 ∷ 0 ∷ 0
    ∷ 0x85 ∷ 0x00 ∷ 0 ∷ 0 ∷ 3 ∷ 0 ∷ 0 ∷ 0
    ∷ 0x95 ∷ 0x00 ∷ 0 ∷ 0 ∷ 0 ∷ 0 ∷ 0 ∷ 0 ∷ []

pub record Known (image : List ℕ) : Type 0 where
  pub last : State
  pub ends : EndsAfter (mains image (5 ∷ [])) 6 last
  pub exits : ending_of last ≡ Some Exit
  pub logs : record_in last 0 ≡ Some (record { sensor = 7; value = 5 })
  pub no_more : record_in last 1 ≡ None
