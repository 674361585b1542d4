-- A rig: a machine on a supply that may say no, with the state that it goes back to. Assumes nothing.
--     G                          what a supply of the kind means: its four numbers, its draws and its recharges
--     r.supply                   the supply
--     r.state, r.kept            the state, and the kept one that it goes back to
--     r.before                   the supply's count of charges from before beginning
--     r.saves, r.cuts, r.attempts     saves passed, cuts, attempts
--     attempt_limit, cut_limit   how many attempts and cuts a rig makes
--     Charged G s s'             what begins a charge, at beginning, after a no and at a cut: it makes s' of the supply s
--     answered e                 what a step answers that went and left the ending e
--     begun G r                  charges begun: the rise of the supply's own count since before beginning, modulo 2^64
--     Begun G start s r          the rig r is begun on the supply s, at the state start
--     Went G m r r'              the step of r was answered yes, and left r'
--     Fell G m r r'              it was answered no, and left r'
--     FellBack G r r'            a charge of the supply of r began and its kept state returned, which left r'
--     WasCut G r r'              the supply of r was cut, which left r'
--     Stepped G m r a r'         a step asked of r answers a, and leaves r'
--     CutDone G ended r a r'     a cut asked of r answers a, and leaves r'; ended tells which states have ended
use Rattle.std.specs.Prelude.{◌≡◌, ℕ, ◌+◌, ◌-◌, ◌%◌, ◌^◌, ◌<◌, ◌≤◌, Bool, true, false, if◌then◌else◌, ◌||◌, Some, None, Ok, Err, Option, Result}
use Rattle.isa.specs.declared.refusal.Refusal.{Refusal}
use Rattle.isa.specs.declared.refusal.Refusal.TheVariants as refusal
use Rattle.machine.specs.declared.ending.Ending.{Ending}
use Rattle.supply.specs.declared.answer.Answer.TheVariants as answer
use Rattle.supply.specs.declared.supply.Supply.{Ghosts}
use Rattle.claims.specs.declared.reply.Attempt.{Attempt}
use Rattle.claims.specs.declared.reply.Attempt.TheVariants as attempt
use Rattle.claims.specs.Machine.{Machine}

pub record Rig (S State : Type 0) : Type 0 where
  pub supply : S
  pub state : State
  pub kept : State
  pub before : ℕ
  pub saves : ℕ
  pub cuts : ℕ
  pub attempts : ℕ

abbrev pub attempt_limit : ℕ
attempt_limit = 1000000

abbrev pub cut_limit : ℕ
cut_limit = 1000000

abbrev pub answered : Option Ending → Attempt
answered None = attempt.Yes
answered (Some e) = attempt.Ended e

abbrev pub Charged : {S : Type 0} → Ghosts S → S → S → Type 0
Charged G s s' = G.fills s s'

module _ {S State : Type 0} (G : Ghosts S) where
  abbrev pub begun : Rig S State → ℕ
  begun r = ((G.four r.supply).charges + (2 ^ 64 - r.before % 2 ^ 64)) % 2 ^ 64

  pub record Begun (start : State) (s : S) (r : Rig S State) : Type 0 where
    pub charged : Charged G s r.supply
    pub state_is : r.state ≡ start
    pub kept_is : r.kept ≡ start
    pub before_is : r.before ≡ (G.four s).charges
    pub saves_is : r.saves ≡ 0
    pub cuts_is : r.cuts ≡ 0
    pub attempts_is : r.attempts ≡ 0

  pub record FellBack (r r' : Rig S State) : Type 0 where
    pub charged : Charged G r.supply r'.supply
    pub state_is : r'.state ≡ r.kept
    pub kept_is : r'.kept ≡ r.kept
    pub before_is : r'.before ≡ r.before
    pub saves_is : r'.saves ≡ r.saves
    pub cuts_is : r'.cuts ≡ r.cuts
    pub attempts_is : r'.attempts ≡ r.attempts

  abbrev pub WasCut : Rig S State → Rig S State → Type 0
  WasCut r r' = FellBack (record r { cuts = r.cuts + 1 }) r'

  pub data CutDone (ended : State → Bool) (r : Rig S State) (a : Result (Unit {0}) Refusal) (r' : Rig S State) : Type 0 where
    refused_ended : ended r.kept ≡ true → a ≡ Err refusal.Ended → r' ≡ r → CutDone ended r a r'
    refused_cuts : ended r.kept ≡ false → cut_limit ≤ r.cuts → a ≡ Err refusal.Cuts → r' ≡ r → CutDone ended r a r'
    done : ended r.kept ≡ false → r.cuts < cut_limit → a ≡ Ok tt → WasCut r r' → CutDone ended r a r'

  module _ (m : Machine State) where
    -- a save or an ending makes the new state the kept one
    pub record Went (r r' : Rig S State) : Type 0 where
      pub drawn : G.draws r.supply (m.amount r.kept r.state) answer.Yes r'.supply
      pub state_is : r'.state ≡ m.run.step r.state
      pub kept_is : r'.kept ≡ if m.saves r.state || m.run.ended (m.run.step r.state) then m.run.step r.state else r.kept
      pub before_is : r'.before ≡ r.before
      pub saves_is : r'.saves ≡ if m.saves r.state then r.saves + 1 else r.saves
      pub cuts_is : r'.cuts ≡ r.cuts
      pub attempts_is : r'.attempts ≡ r.attempts + 1

    pub record Fell (r r' : Rig S State) : Type 0 where
      pub emptied : S
      pub drawn : G.draws r.supply (m.amount r.kept r.state) answer.No emptied
      pub back : FellBack (record r { supply = emptied; attempts = r.attempts + 1 }) r'

    pub data Stepped (r : Rig S State) (a : Result Attempt Refusal) (r' : Rig S State) : Type 0 where
      refused_ended : m.run.ended r.kept ≡ true → a ≡ Err refusal.Ended → r' ≡ r → Stepped r a r'
      refused_attempts : m.run.ended r.kept ≡ false → attempt_limit ≤ r.attempts → a ≡ Err refusal.Attempts → r' ≡ r
          → Stepped r a r'
      went : m.run.ended r.kept ≡ false → r.attempts < attempt_limit → a ≡ Ok (answered (m.ending (m.run.step r.state)))
          → Went r r' → Stepped r a r'
      fell : m.run.ended r.kept ≡ false → r.attempts < attempt_limit → a ≡ Ok attempt.No → Fell r r' → Stepped r a r'
