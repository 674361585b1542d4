-- What a round draws its charge from: a capacitor or the mains, each as it is as a supply. Assumes nothing.
--     four_of s           the four numbers that it means
--     Draws s n a t       a draw of n units answers a, and makes t of s
--     Fills s t           a recharge makes t of s
use Rattle.std.specs.Prelude.{◌≡◌, ℕ}
use Rattle.supply.specs.declared.answer.Answer.{Answer}
use Rattle.supply.specs.declared.answer.Answer.TheVariants.{Yes}
use Rattle.supply.specs.Supply.{Four}
use Rattle.supply.specs.Capacitor as capacitor
use Rattle.supply.specs.Mains as mains
use Rattle.supply.specs.declared.source.Source.{Source}
use Rattle.supply.specs.declared.source.Source.TheVariants.{Capacitor, Mains}

abbrev pub four_of : Source → Four
four_of (Capacitor x) = capacitor.four_in (capacitor.condition_of x)
four_of (Mains x) = mains.four_of x

abbrev pub Draws : Source → ℕ → Answer → Source → Type 0
Draws (Capacitor x) n a (Capacitor y) = capacitor.Drew x n a y
Draws (Capacitor x) n a (Mains y) = ⊥
Draws (Mains x) n a (Capacitor y) = ⊥
Draws (Mains x) n a (Mains y) = (a ≡ Yes) × (y ≡ mains.drawn x n)

abbrev pub Fills : Source → Source → Type 0
Fills (Capacitor x) (Capacitor y) = capacitor.condition_of y ≡ capacitor.filled (capacitor.condition_of x)
Fills (Capacitor x) (Mains y) = ⊥
Fills (Mains x) (Capacitor y) = ⊥
Fills (Mains x) (Mains y) = y ≡ mains.filled x
