use Rattle.std.proofs.Common.{◌≡◌, length, Err, sym, ◌∙◌}
use Rattle.placer.specs.Place.{unplaced}
use Rattle.placer.proofs.Outcome.{at_ok, at_err, left_accepted, left_refused}
use Rattle.placer.proofs.place.place_lawful.Goals as goal

pub returns : goal.returns
returns g c =
    let m = g.M.PriceModel.means c.args.by.now.model.now in
    let before = c.args.image.now in
    let old = c.args.working.now in
    let after = c.write_marked.new.image in
    let t = at_ok m before c.args.by.now.budget (length old) c.requires c.saves_in-saves.result c.saves_in-saves.ensures after c.write_marked.ensures
    (sym c.certify.ensures.value ∙ c.in_default.is) in
    record {
      value = t.0;
      image = t.1;
      left = left_accepted m before after old c.certify.new.working c.certify.result c.in_default.is c.certify.ensures.left;
    }

pub returns-in-Err : goal.returns-in-Err
returns-in-Err g c =
    let m = g.M.PriceModel.means c.args.by.now.model.now in
    let before = c.args.image.now in
    let old = c.args.working.now in
    let after = c.write_marked.new.image in
    let b = c.in-Err.refusal in
    let t = at_err m before c.args.by.now.budget (length old) c.requires c.saves_in-saves.result c.saves_in-saves.ensures after c.write_marked.ensures
    b c.write_marked-in-Err.new.image (sym c.certify.ensures.value ∙ c.in-Err.is) c.write_marked-in-Err.ensures in
    let carried : Err c.no_placement.result ≡ unplaced _ = c.no_placement.ensures _ t.result in
    record {
      value = carried ∙ t.value;
      image = t.image;
      left = left_refused m before after c.write_marked-in-Err.new.image old c.certify.new.working _ c.certify.result (Err c.no_placement.result)
          t.refuses (t.result ∙ sym c.in-Err.is) carried t.turned c.certify.ensures.left;
    }
