-- The run claims: what holds of a rig whose round was accepted. Assumes nothing.
--     Claims G m cs r      what is claimed of the rig r after the calls cs
--     Claimed G m budget   the claims at every moment of every history on a supply of at least that budget
--     MachineClaims G      the claims of every machine that keeps its laws, at every budget at which its graph is accepted
--     RunClaims G          the claims of every round: any price model that keeps its laws, any lawful image, any tape, any budget
--                          at which the image is accepted
use Rattle.std.specs.Prelude.{◌≡◌, ℕ, ◌+◌, ◌*◌, ◌≤◌, true, false, List}
use Rattle.isa.specs.Lawful.{Lawful}
use Rattle.machine.specs.declared.state.State.{State}
use Rattle.machine.specs.Process.{AfterSaves, EndsAfter}
use Rattle.pricing.specs.Model.{Model, Bounded}
use Rattle.supply.specs.declared.supply.Supply.{Ghosts}
use Rattle.walks.specs.Acceptance.{Accepted}
use Rattle.walks.specs.ImageGraph.{graph_of}
use Rattle.claims.specs.declared.call.Call.{Call}
use Rattle.claims.specs.declared.reply.Reply.{Reply}
use Rattle.claims.specs.Machine.{Machine, Obeys}
use Rattle.claims.specs.Rig.{Rig, begun}
use Rattle.claims.specs.History.{History, steps_in, Always}
use Rattle.claims.specs.Round.{round_of}

pub record Claims {S State : Type 0} (G : Ghosts S) (m : Machine State) (cs : List Call) (r : Rig S State) : Type 0 where
  -- a charge for each save, each cut and the beginning at most
  pub charges : begun G r ≤ r.saves + r.cuts + 1
  -- the kept state is the run's just after equally many saves or, once the rig has ended, the run's end
  pub same : m.run.ended r.kept ≡ false → AfterSaves m.run r.saves r.kept
  pub end : m.run.ended r.kept ≡ true → (n : ℕ) × EndsAfter m.run n r.kept
  -- where the run ends after n steps, a rig without cuts has ended alike once 2n steps were asked
  pub ends : (n : ℕ) (σ : State) → EndsAfter m.run n σ → n ≤ 500000 → r.cuts ≡ 0 → 2 * n ≤ steps_in cs → r.kept ≡ σ

abbrev pub Claimed : {S State : Type 0} → Ghosts S → Machine State → ℕ → Type 0
Claimed {S} {State} G m budget =
    (s : S) → budget ≤ (G.four s).budget → (cs : List Call) (replies : List Reply) (r : Rig S State)
    → (h : History G m s cs replies r) → Always (Claims G m) h

abbrev pub MachineClaims : {S : Type 0} → Ghosts S → Type 0
MachineClaims G = (m : Machine State) → Obeys m → (budget : ℕ) → Accepted m.graph budget → Claimed G m budget

abbrev pub RunClaims : {S : Type 0} → Ghosts S → Type 0
RunClaims G =
    (d : Model) → Bounded d → (image tape : List ℕ) → Lawful image → (budget : ℕ) → Accepted (graph_of d image) budget
    → Claimed G (round_of d image tape) budget
