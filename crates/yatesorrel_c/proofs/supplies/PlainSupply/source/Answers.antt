-- No source has the numbers where neither a capacitor nor the mains do.
use Rattle.std.proofs.Common.{sym, subst}
use Rattle.yatesorrel_c.specs.Supplies.{SupplyIn}
use Rattle.yatesorrel_c.proofs.Telling.{neither}
use Rattle.yatesorrel_c.proofs.supplies.PlainSupply.source.Goals as goal

pub returns-in_err-mains : goal.returns-in_err-mains
returns-in_err-mains c = subst (λ o. SupplyIn c.args.self.now o) (sym c.from_residual.ensures) (neither _ c.in_default.ensures c.in_err-mains.ensures)
