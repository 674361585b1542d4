-- A step of a rig from C. Assumes nothing.
--     attempt_in x       what is told of a step that answers x: a refusal, whether the supply said yes, and the ending
--     own_attempt o      what is told where the call from C refuses by itself
--     AttemptDone m image tape r p a     a step of the rig r left the rig whose plain numbers p are, and a tells its answer; the
--                                        prices mean m
use Rattle.std.specs.Prelude.{◌≡◌, ℕ, List, Some, None, Ok, Err, Result}
use Rattle.isa.specs.declared.refusal.Refusal.{Refusal}
use Rattle.machine.specs.declared.state.State.{State}
use Rattle.pricing.specs.Model.{Model}
use Rattle.claims.specs.declared.reply.Attempt.{Attempt}
use Rattle.claims.specs.declared.reply.Attempt.TheVariants.{No, Yes, Ended}
use Rattle.claims.specs.Rig.{Rig, Stepped}
use Rattle.claims.specs.Round.{round_of}
use Rattle.supply.specs.declared.source.Source.{Source}
use Rattle.yatesorrel_c.specs.declared.told.Own.{Own}
use Rattle.yatesorrel_c.specs.declared.held.PlainRig.{PlainRig}
use Rattle.yatesorrel_c.specs.declared.attempt.PlainAttempt.{PlainAttempt}
use Rattle.yatesorrel_c.specs.Told.{told_in, own_told}
use Rattle.yatesorrel_c.specs.State.{ending_number_in}
use Rattle.yatesorrel_c.specs.Held.{plain_rig, Whole, sources}

abbrev pub attempt_in : Result Attempt Refusal → PlainAttempt
attempt_in (Ok No) = record { refusal = told_in None; said_yes = 0; ending = 0 }
attempt_in (Ok Yes) = record { refusal = told_in None; said_yes = 1; ending = 0 }
attempt_in (Ok (Ended e)) = record { refusal = told_in None; said_yes = 1; ending = ending_number_in (Some e) }
attempt_in (Err r) = record { refusal = told_in (Some r); said_yes = 0; ending = 0 }

abbrev pub own_attempt : Own → PlainAttempt
own_attempt o = record { refusal = own_told o; said_yes = 0; ending = 0 }

pub record AttemptDone (m : Model) (image tape : List ℕ) (r : Rig Source State) (p : PlainRig) (a : PlainAttempt) : Type 0 where
  pub answer : Result Attempt Refusal
  pub left : Rig Source State
  pub whole : Whole left
  pub stepped : Stepped sources (round_of m image tape) r answer left
  pub written : p ≡ plain_rig left
  pub told : a ≡ attempt_in answer
