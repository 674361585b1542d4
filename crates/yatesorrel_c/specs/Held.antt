-- A rig in plain numbers. Assumes nothing.
--     Whole r         the rig r counts no more saves than attempts, and has no ending but those that a run comes to, as every rig that
--                     is begun
--     plain_rig r     the plain numbers of the rig r
--     Unbegun p       no such rig has the plain numbers p
--     RigIn p o       o is the supply of the rig whose plain numbers p are; or none, where no rig has them
--     sources         what the supplies mean
--     RigsTold        plain numbers are those of one rig at most
use Rattle.std.specs.Prelude.{◌≡◌, ◌≤◌, Option, MatchOption}
use Rattle.machine.specs.declared.state.State.{State}
use Rattle.claims.specs.Rig.{Rig}
use Rattle.rig.specs.Seen.{rig_on}
use Rattle.supply.specs.declared.source.Source.{Source}
use Rattle.yatesorrel_c.specs.declared.held.PlainRig.{PlainRig}
use Rattle.supply.specs.declared.supply.Supply.{Ghosts}
use Rattle.supply.specs.Source.{four_of, Draws, Fills}
use Rattle.yatesorrel_c.specs.State.{Known}
use Rattle.yatesorrel_c.specs.Supplies.{plain_supply}

pub record Whole (r : Rig Source State) : Type 0 where
  pub few : r.saves ≤ r.attempts
  pub state : Known r.state
  pub kept : Known r.kept

abbrev pub plain_rig : Rig Source State → PlainRig
plain_rig r =
    record {
      supply = plain_supply r.supply;
      standing = record { state = r.state; kept = r.kept; before = r.before; saves = r.saves; cuts = r.cuts; attempts = r.attempts };
    }

abbrev pub Unbegun : PlainRig → Type 0
Unbegun p = (r : Rig Source State) → Whole r → p ≡ plain_rig r → ⊥

abbrev pub RigIn : PlainRig → Option Source → Type 0
RigIn p o = MatchOption o (Unbegun p) (λ s. Whole (rig_on s p.standing) × (p ≡ plain_rig (rig_on s p.standing)))

abbrev pub sources : Ghosts Source
sources = record { four = four_of; draws = Draws; fills = Fills }

abbrev pub RigsTold : Type 0
RigsTold = (r s : Rig Source State) → plain_rig r ≡ plain_rig s → r ≡ s
