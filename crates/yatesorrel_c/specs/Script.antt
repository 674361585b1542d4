-- The calls of a script and the replies to them, in plain numbers. Assumes nothing.
--     call_in p        the call of the plain numbers p; one of no kind is read as one for a record
--     known p          the call p is of some kind, 0 to 6
--     refusal_reply r, attempt_reply x, count_reply n, record_reply x     what is told of a refusal or none, of a step's answer, of a
--                      count, and of a record or why there is none
--     reply_in a       what is told of the reply a
use Rattle.std.specs.Prelude.{ℕ, Bool, if◌then◌else◌, Some, None, Ok, Err, Option, Result, nat_eq, nat_le}
use Rattle.std.specs.Result.{result_err}
use Rattle.isa.specs.declared.refusal.Refusal.{Refusal}
use Rattle.machine.specs.declared.state.Record.{Record}
use Rattle.machine.specs.State.{empty}
use Rattle.claims.specs.declared.call.Call.{Call}
use Rattle.claims.specs.declared.call.Call.TheVariants as call
use Rattle.claims.specs.declared.reply.Attempt.{Attempt}
use Rattle.claims.specs.declared.reply.Reply.{Reply}
use Rattle.claims.specs.declared.reply.Reply.TheVariants as reply
use Rattle.yatesorrel_c.specs.declared.script.PlainCall.{PlainCall}
use Rattle.yatesorrel_c.specs.declared.script.PlainReply.{PlainReply}
use Rattle.yatesorrel_c.specs.Told.{told_in}
use Rattle.yatesorrel_c.specs.Attempt.{attempt_in}

abbrev pub call_in : PlainCall → Call
call_in p =
    if nat_eq p.kind 0 then call.Step
    else if nat_eq p.kind 1 then call.Cut
    else if nat_eq p.kind 2 then call.Charges
    else if nat_eq p.kind 3 then call.Saves
    else if nat_eq p.kind 4 then call.Cuts
    else if nat_eq p.kind 5 then call.Attempts
    else call.Record p.index

abbrev pub known : PlainCall → Bool
known p = nat_le p.kind 6

abbrev pub refusal_reply : Option Refusal → PlainReply
refusal_reply r = record { refusal = told_in r; said_yes = 0; ending = 0; count = 0; kept = empty }

abbrev pub attempt_reply : Result Attempt Refusal → PlainReply
attempt_reply x =
    record { refusal = (attempt_in x).refusal; said_yes = (attempt_in x).said_yes; ending = (attempt_in x).ending; count = 0; kept = empty }

abbrev pub count_reply : ℕ → PlainReply
count_reply n = record { refusal = told_in None; said_yes = 0; ending = 0; count = n; kept = empty }

abbrev pub record_reply : Result Record Refusal → PlainReply
record_reply (Ok x) = record { refusal = told_in None; said_yes = 0; ending = 0; count = 0; kept = x }
record_reply (Err r) = record { refusal = told_in (Some r); said_yes = 0; ending = 0; count = 0; kept = empty }

abbrev pub reply_in : Reply → PlainReply
reply_in (reply.Step x) = attempt_reply x
reply_in (reply.Cut x) = refusal_reply (result_err x)
reply_in (reply.Count n) = count_reply n
reply_in (reply.Record x) = record_reply x
