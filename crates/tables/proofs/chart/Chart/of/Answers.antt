use Rattle.std.proofs.Common.{◌≡◌, ℕ, ◌/◌, Bool, true, ◌↔◌, ap}
use mathlib.Core.Path.{subst⁻¹}
use Rattle.isa.specs.Lawful.{Lawful}
use Rattle.tables.proofs.Describing.{reached_told}
use Rattle.tables.proofs.Charting.{finished, finished_chart}
use Rattle.tables.proofs.chart.Chart.of.Goals as goal

pub returns : goal.returns
returns g c =
    let m = g.M.PriceModel.means c.args.model.now in
    let image = c.args.image.now in
    let after = c.finish.new.self in
    let told = c.finish.ensures in
    let f =
    finished m image (c.min.result / 8) (ap (λ (n : ℕ). n / 8) c.min.ensures) c.open.ensures.nodes c.open.ensures.saves told.reached told.starts told.size told.nodes in
    record {
      nodes = f.nodes_told;
      size = f.size;
      starts = f.starts_begin;
      reached = f.reached_all;
      reachable = λ lawful. reached_told m image lawful after.reached f.reached_all;
      lawful = subst⁻¹ (λ (b : Bool). (b ≡ true) ↔ Lawful image) told.lawful c.open.ensures.lawful;
      chart = finished_chart m image f;
    }
