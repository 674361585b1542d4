-- A small round on a small capacitor, whose counts are known. Assumes nothing.
--     six_slots                    r1 = 7, the next reading, r2 = r0, a save, a record, EXIT
--     tens                         257 prices of 10
--     round                        the round of the six slots over the tape 5, at these prices
--     small                        16 microfarads between 3,000 and 2,000 millivolts, in units of a microjoule: 40 units
--     capacitors                   what capacitors mean as supplies
--     steps n                      n calls for a step
--     Ends c k n r                 the rig r has begun c charges, passed k saves and made n attempts, and its kept state ended by EXIT
--     Known cs c k n               every rig begun on a new such capacitor has, after the calls cs, ended so
use Rattle.std.specs.Prelude.{◌≡◌, ℕ, zero, suc, List, [], ◌∷◌, replicate, Some}
use Rattle.machine.specs.declared.ending.Ending.TheVariants.{Exit}
use Rattle.machine.specs.declared.state.State.{State}
use Rattle.machine.specs.State.{ending_of}
use Rattle.pricing.specs.Flat.{flat}
use Rattle.supply.specs.declared.capacitor.Capacitor.{Capacitor}
use Rattle.supply.specs.declared.supply.Supply.{Ghosts}
use Rattle.supply.specs.Capacitor.{Drew, condition_of, filled, four_in, fresh}
use Rattle.supply.specs.Ratings.{Ratings, ratings_of}
use Rattle.claims.specs.declared.call.Call.{Call}
use Rattle.claims.specs.declared.call.Call.TheVariants.{Step}
use Rattle.claims.specs.declared.reply.Reply.{Reply}
use Rattle.claims.specs.History.{History}
use Rattle.claims.specs.Machine.{Machine}
use Rattle.claims.specs.Rig.{Rig, begun}
use Rattle.claims.specs.Round.{round_of}

abbrev pub six_slots : List ℕ
six_slots =
    0xb7 ∷ 0x01 ∷ 0 ∷ 0 ∷ 7 ∷ 0 ∷ 0 ∷ 0
    ∷ 0x85 ∷ 0x00 ∷ 0 ∷ 0 ∷ 2 ∷ 0 ∷ 0 ∷ 0
    ∷ 0xbf ∷ 0x02 ∷ 0 ∷ 0 ∷ 0 ∷ 0 ∷ 0 ∷ 0
    ∷ 0x85 ∷ 0x00 ∷ 0 ∷ 0 ∷ 1 ∷ 0 ∷ 0 ∷ 0
    ∷ 0x85 ∷ 0x00 ∷ 0 ∷ 0 ∷ 3 ∷ 0 ∷ 0 ∷ 0
    ∷ 0x95 ∷ 0x00 ∷ 0 ∷ 0 ∷ 0 ∷ 0 ∷ 0 ∷ 0 ∷ []

abbrev pub tens : List ℕ
tens = replicate 257 10

abbrev pub round : Machine State
round = round_of (flat tens) six_slots (5 ∷ [])

abbrev pub small : Ratings
small = ratings_of 16 3000 2000 1000000

abbrev pub capacitors : Ghosts Capacitor
capacitors = record { four = λ x. four_in (condition_of x); draws = Drew; fills = λ x y. condition_of y ≡ filled (condition_of x) }

abbrev pub steps : ℕ → List Call
steps zero = []
steps (suc n) = Step ∷ steps n

pub record Ends (charges saves attempts : ℕ) (r : Rig Capacitor State) : Type 0 where
  pub charges_are : begun capacitors r ≡ charges
  pub saves_are : r.saves ≡ saves
  pub attempts_are : r.attempts ≡ attempts
  pub exits : ending_of r.kept ≡ Some Exit

abbrev pub Known : List Call → ℕ → ℕ → ℕ → Type 0
Known cs charges saves attempts =
    (s : Capacitor) → condition_of s ≡ fresh small → (replies : List Reply) (r : Rig Capacitor State)
    → History capacitors round s cs replies r → Ends charges saves attempts r
