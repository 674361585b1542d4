use Rattle.std.proofs.Common.{◌≡◌, ◌+◌, false, slice_index_or, subst, sym, rules}
use Rattle.std.proofs.lemmas.List.{get_or-replicate}
use Rattle.survey.specs.Counted.{Chosen}
use Rattle.survey.specs.Membership.{no_region, MemberBelow}
use Rattle.survey.proofs.Regioning.{member_none, member_told, member_unchosen}
use Rattle.survey.proofs.regions.Memberships.of.Goals as goal
use Rattle.survey.proofs.regions.Memberships.of.Goals.{then-starts-start, else-starts-start}

pub loop-start-init : goal.loop-start-init
loop-start-init c = λ slot inside.
    subst (MemberBelow c.args.nodes.now c.args.starts.now slot 0) (sym (get_or-replicate 1024 slot no_region no_region inside)) (member_none c.args.nodes.now c.args.starts.now slot)

pub loop-start-preserved : goal.loop-start-preserved
loop-start-preserved c = λ slot inside.
    let nodes = c.args.nodes.now in
    let starts = c.args.starts.now in
    let n = c.loop-start.start in
    let below = c.loop-start.invariant slot inside in
    elim c.if-starts-start.branch [
      | then-starts-start w ↦
          let chosen : Chosen starts n = search rules in
          subst (λ l. MemberBelow nodes starts slot (n + 1) (slice_index_or l.list slot no_region)) (sym w.memberships-is)
          (member_told nodes starts slot n _ _ _ c.loop-start-test.true chosen (w.reach_from.ensures slot inside) (w.join.ensures slot inside) below)
      | else-starts-start w ↦
          let no : slice_index_or starts n false ≡ false = search rules in
          subst (λ l. MemberBelow nodes starts slot (n + 1) (slice_index_or l.list slot no_region)) (sym w.memberships-is)
          (member_unchosen nodes starts slot n _ no below)
    ]
