use Rattle.std.proofs.Common.{ap, ◌∙◌, refl, rules}
use Rattle.claims.specs.Amount.{amount_of}
use Rattle.machine.specs.Step.{is_save}
use Rattle.rig.proofs.standing.Standing.advance.Goals as goal

pub returns : goal.returns
unfolding amount_of
returns g c =
    record {
      amount_is = search rules;
      save_is = c.is_save.ensures ∙ ap is_save c.step-effect.ensures.effect;
      state_is = c.step-effect.ensures.left;
      kept_is = refl;
      before_is = refl;
      saves_is = refl;
      cuts_is = refl;
      attempts_is = refl;
    }
