-- The moments of a run: its begin, and each call that was not refused and asked for more than a number. Assumes nothing.
--     is_saved e, is_fallen e, is_cut e     which event it is
--     event_of a saved          what a call made happen, by its reply and by whether a save was passed; none where nothing did
--     charge_of r               the charge that the supply of the rig r assures
--     moment_of r a r'          the moment of a call of r that answered a and left r'
--     moments h                 the moments of a history, the oldest first
use Rattle.std.specs.Prelude.{ℕ, ◌==◌, Bool, true, false, not, if◌then◌else◌, List, [], ◌∷◌, ◌++◌, Option, Some, None, Ok, Err}
use Rattle.std.specs.Option.{option_map, option_to_list}
use Rattle.supply.specs.declared.supply.Supply.{Ghosts}
use Rattle.claims.specs.declared.call.Call.{Call}
use Rattle.claims.specs.declared.reply.Attempt.TheVariants as attempt
use Rattle.claims.specs.declared.reply.Reply.{Reply}
use Rattle.claims.specs.declared.reply.Reply.TheVariants as reply
use Rattle.claims.specs.Machine.{Machine}
use Rattle.claims.specs.Rig.{Rig}
use Rattle.claims.specs.History.{History, begun_on, called}
use Rattle.survey.specs.declared.moment.Event.{Event}
use Rattle.survey.specs.declared.moment.Event.TheVariants.{Begun, Drew, Saved, Fell, Cut}
use Rattle.survey.specs.declared.moment.Moment.{Moment}

abbrev pub is_saved : Event → Bool
is_saved Begun = false
is_saved Drew = false
is_saved Saved = true
is_saved Fell = false
is_saved Cut = false

abbrev pub is_fallen : Event → Bool
is_fallen Begun = false
is_fallen Drew = false
is_fallen Saved = false
is_fallen Fell = true
is_fallen Cut = false

abbrev pub is_cut : Event → Bool
is_cut Begun = false
is_cut Drew = false
is_cut Saved = false
is_cut Fell = false
is_cut Cut = true

abbrev pub event_of : Reply → Bool → Option Event
event_of (reply.Step (Ok attempt.No)) saved = Some Fell
event_of (reply.Step (Ok attempt.Yes)) saved = Some (if saved then Saved else Drew)
event_of (reply.Step (Ok (attempt.Ended e))) saved = Some (if saved then Saved else Drew)
event_of (reply.Step (Err r)) saved = None
event_of (reply.Cut (Ok u)) saved = Some Cut
event_of (reply.Cut (Err r)) saved = None
event_of (reply.Count n) saved = None
event_of (reply.Record r) saved = None

module _ {S State : Type 0} (G : Ghosts S) where
  abbrev pub charge_of : Rig S State → ℕ
  charge_of r = (G.four r.supply).assured

  abbrev pub moment_of : Rig S State → Reply → Rig S State → Option Moment
  moment_of r a r' = option_map (λ e. record { charge = charge_of r'; event = e }) (event_of a (not (r'.saves == r.saves)))

  abbrev pub moments : {m : Machine State} {s : S} {cs : List Call} {replies : List Reply} {r : Rig S State} → History G m s cs replies r → List Moment
  moments (begun_on {r = r} b) = record { charge = charge_of r; event = Begun } ∷ []
  moments (called {r = r} {r' = r'} c a h d) = moments h ++ option_to_list (moment_of r a r')
