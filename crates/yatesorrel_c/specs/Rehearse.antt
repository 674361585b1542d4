-- A whole script from C: a rig begun on a supply, and the calls made. Assumes nothing.
--     Refused o before after old new t     the call from C refuses by itself, and leaves the replies and the rig
--     Rehearsed G m image tape s calls before after r     the rig r, begun on the supply s, made the calls for whose replies there
--                                        was room; what is told of its replies stands in the list, whose rest is as it was before;
--                                        the supplies mean G, and the round is of the prices m, the image and the tape
--     ScriptDone m image tape s calls before after p t     that, p are the plain numbers of the rig, and t tells no refusal
use Rattle.std.specs.Prelude.{◌≡◌, ℕ, ◌≤◌, min, List, map, length, take, drop, None}
use Rattle.isa.specs.Lawful.{Lawful}
use Rattle.machine.specs.declared.state.State.{State}
use Rattle.pricing.specs.Model.{Model}
use Rattle.supply.specs.declared.supply.Supply.{Ghosts}
use Rattle.walks.specs.Acceptance.{Accepted}
use Rattle.walks.specs.ImageGraph.{graph_of}
use Rattle.claims.specs.declared.reply.Reply.{Reply}
use Rattle.claims.specs.Claims.{Claims}
use Rattle.claims.specs.History.{History, Always}
use Rattle.claims.specs.Rig.{Rig}
use Rattle.claims.specs.Round.{round_of}
use Rattle.supply.specs.declared.source.Source.{Source}
use Rattle.yatesorrel_c.specs.declared.told.Own.{Own}
use Rattle.yatesorrel_c.specs.declared.told.PlainTold.{PlainTold}
use Rattle.yatesorrel_c.specs.declared.held.PlainRig.{PlainRig}
use Rattle.yatesorrel_c.specs.declared.script.PlainCall.{PlainCall}
use Rattle.yatesorrel_c.specs.declared.script.PlainReply.{PlainReply}
use Rattle.yatesorrel_c.specs.Told.{told_in, own_told}
use Rattle.yatesorrel_c.specs.Held.{plain_rig, Whole, sources}
use Rattle.yatesorrel_c.specs.Script.{call_in, reply_in}

pub record Refused (o : Own) (before after : List PlainReply) (old new : PlainRig) (t : PlainTold) : Type 0 where
  pub told : t ≡ own_told o
  pub replies : after ≡ before
  pub rig : new ≡ old

pub record Rehearsed {S : Type 0} (G : Ghosts S) (m : Model) (image tape : List ℕ) (s : S) (calls : List PlainCall) (before after : List PlainReply) (r : Rig S State) : Type 0 where
  pub made : ℕ
  pub all : made ≡ min (length calls) (length before)
  pub replies : List Reply
  pub told : take made after ≡ map reply_in replies
  pub rest : drop made after ≡ drop made before
  pub history : History G (round_of m image tape) s (map call_in (take made calls)) replies r
  -- and the run claims hold at every moment of it
  pub claimed : (budget : ℕ) → Lawful image → Accepted (graph_of m image) budget → budget ≤ (G.four s).budget
      → Always (Claims G (round_of m image tape)) history

pub record ScriptDone (m : Model) (image tape : List ℕ) (s : Source) (calls : List PlainCall) (before after : List PlainReply) (p : PlainRig) (t : PlainTold) : Type 0 where
  pub left : Rig Source State
  pub whole : Whole left
  pub rehearsed : Rehearsed sources m image tape s calls before after left
  pub written : p ≡ plain_rig left
  pub told : t ≡ told_in None
