use Rattle.std.proofs.Common.{◌≡◌, ℕ, List, Ok, Err, Result, length, refl, sym, ap, ◌∙◌, true≢false}
use mathlib.Core.Path.{subst⁻¹}
use Rattle.std.proofs.lemmas.Result.{err_from_is_err_and}
use Rattle.isa.specs.declared.refusal.Refusal.{Refusal}
use Rattle.isa.specs.Lawful.{lawfulness}
use Rattle.isa.proofs.Judging.{judging}
use Rattle.pricing.specs.Model.{Model}
use Rattle.paths.specs.Kind.{PathKind}
use Rattle.walks.specs.ImageGraph.{graph_of}
use Rattle.certifier.specs.Certify.{admission, LeftBy, Meaning, certification}
use Rattle.certifier.proofs.Admitting.{limits_refuse, limits_pass, in_order, not_of_walks}
use Rattle.certifier.proofs.Certifying.{at_refusal, at_worths, meaning}
use Rattle.certifier.proofs.Leaving.{left_refused, left_judged}
use Rattle.certifier.proofs.certify.Certifier.certify_by.Goals as goal

pub returns : goal.returns
returns g c =
    let by = c.args.self.now in
    let m = g.M.PriceModel.means by.model.now in
    let image = c.args.image.now in
    let old = c.args.worths.now in
    let k = g.V.PathValue.kind in
    let price = g.V.Priced.price in
    let new = c.judge.new.worths in
    let lawful = c.of_lawful-chart.ensures.lawful.0 c.if-not-chart.false in
    let e =
    at_worths m image by.budget (length old) (in_order image by.budget (length old) (sym c.check_limits.ensures ∙ c.in_ok-check_limits.was) lawful)
    (g.met.M.PriceModel.bounded by.model.now)
    k g.met.V.PathValue.laws price g.met.V.Priced.saturates old new c.judge.result c.judge.ensures in
    record {
      value = e;
      meaning = meaning m image by.budget (length old) c.judge.result e;
      left = left_judged k (graph_of m image) old price by.budget new c.judge.result c.judge.ensures;
    }

-- a refusal before the walks
record Refused {V : Type 0} (k : PathKind V) (m : Model) (image : List ℕ) (budget : ℕ) (old : List V) (r : Result (Unit {0}) Refusal) : Type 0 where
  pub value : r ≡ certification m image budget (length old)
  pub meaning : Meaning m image budget (length old) r
  pub left : LeftBy k (graph_of m image) old old r

refused : {V : Type 0} (k : PathKind V) (m : Model) (image : List ℕ) (budget : ℕ) (old : List V) (r : Result (Unit {0}) Refusal) (refusal : Refusal)
    → r ≡ Err refusal → admission image budget (length old) ≡ Err refusal → Refused k m image budget old r
refused k m image budget old r refusal same by =
    let e = same ∙ at_refusal m image budget (length old) refusal by in
    record {
      value = e;
      meaning = meaning m image budget (length old) r e;
      left = subst⁻¹ (LeftBy k (graph_of m image) old old) same (left_refused k (graph_of m image) old refusal (not_of_walks image budget (length old) refusal by));
    }

pub returns-in_err-check_limits : goal.returns-in_err-check_limits
returns-in_err-check_limits g c =
    let by = c.args.self.now in
    let refusal = c.in_err-check_limits.field-0.0 in
    let old = c.args.worths.now in
    let p = err_from_is_err_and c.from_residual.result c.from_residual.ensures.1 in
    let r =
    refused g.V.PathValue.kind (g.M.PriceModel.means by.model.now) c.args.image.now by.budget old c.from_residual.result refusal (p.1 ∙ ap Err p.2)
    (limits_refuse c.args.image.now by.budget (length old) refusal (sym c.check_limits.ensures ∙ c.in_err-check_limits.was)) in
    record { value = r.value; meaning = r.meaning; left = r.left }

pub returns-then-not-chart : goal.returns-then-not-chart
returns-then-not-chart g c =
    let by = c.args.self.now in
    let image = c.args.image.now in
    let old = c.args.worths.now in
    let room = limits_pass image by.budget (length old) (sym c.check_limits.ensures ∙ c.in_ok-check_limits.was) in
    let r = go c.lawful.result refl c.lawful.ensures.value room in
    record { value = r.value; meaning = r.meaning; left = r.left }
  where
    go : (x : Result (Unit {0}) Refusal) → c.lawful.result ≡ x → c.lawful.result ≡ lawfulness c.args.image.now
        → admission c.args.image.now c.args.self.now.budget (length c.args.worths.now) ≡ lawfulness c.args.image.now
        → Refused g.V.PathValue.kind (g.M.PriceModel.means c.args.self.now.model.now) c.args.image.now c.args.self.now.budget c.args.worths.now c.lawful.result
    go (Ok u) is told room =
        absurd (true≢false (sym (c.of_lawful-chart.ensures.lawful.1 ((judging c.args.image.now).accepted (sym told ∙ is))) ∙ c.if-not-chart.true))
    go (Err refusal) is told room =
        refused g.V.PathValue.kind (g.M.PriceModel.means c.args.self.now.model.now) c.args.image.now c.args.self.now.budget c.args.worths.now
        c.lawful.result refusal is (room ∙ sym told ∙ is)
