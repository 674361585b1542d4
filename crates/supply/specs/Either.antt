-- A draw from either supply keeps what a supply means.
use Rattle.std.specs.Prelude.{ℕ, refl}
use Rattle.std.proofs.Common.{ap, arith}
use Rattle.supply.specs.declared.answer.Answer.{Answer}
use Rattle.supply.specs.declared.mains.Mains.{Mains as Held}
use Rattle.supply.specs.Supply.{Drawn}
use Rattle.supply.specs.Drawing.{keeps_meaning}
use Rattle.supply.specs.declared.source.Source.{Source}
use Rattle.supply.specs.declared.source.Source.TheVariants.{Capacitor, Mains}
use Rattle.supply.specs.Source.{four_of, Draws}

pub keeps_either : (s t : Source) (n : ℕ) (a : Answer) → Draws s n a t → Drawn (four_of s) n a (four_of t)
keeps_either (Capacitor x) (Capacitor y) n a d = keeps_meaning x y n a d
keeps_either (Capacitor x) (Mains y) n a d = absurd d
keeps_either (Mains x) (Capacitor y) n a d = absurd d
keeps_either (Mains x) (Mains y) n a d =
    record {
      budget_same = refl;
      assured_yes = λ h. d.0;
      assured_falls = λ h. omega arith;
      asked_rises = ap (λ (m : Held). m.asked) d.1;
      charges_same = ap (λ (m : Held). m.charges) d.1;
    }
