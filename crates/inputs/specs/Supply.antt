-- A supply as a word names it: mains, or capacitor:C,TOP,BOTTOM,UNIT.
--
-- numbers_of text       the numbers between the commas of a text, each none where it is no number below 2^32
-- capacitor_of numbers  the capacitor of four numbers, or none
-- supply_of word        the supply that a word names, or none
use Rattle.std.specs.Prelude.{ℕ, ◌^◌, ◌==◌, List, [], ◌∷◌, map, codes, bytes_eq, Option, Some, None, option_and_then, if◌then◌else◌}
use Rattle.std.specs.List.{slice_split}
use Rattle.inputs.specs.declared.supply.SupplyWord.{SupplyWord}
use Rattle.inputs.specs.declared.supply.SupplyWord.TheVariants.{Mains, Capacitor}
use Rattle.inputs.specs.Number.{number}
use Rattle.inputs.specs.Text.{behind}

abbrev pub numbers_of : List ℕ → List (Option ℕ)
numbers_of text = map (number 10 (2 ^ 32)) (slice_split (λ b. b == 44) text)

abbrev pub capacitor_of : List (Option ℕ) → Option SupplyWord
capacitor_of (Some microfarads ∷ Some top ∷ Some bottom ∷ Some unit ∷ []) = Some (Capacitor microfarads top bottom unit)
capacitor_of _ = None

abbrev pub supply_of : List ℕ → Option SupplyWord
supply_of word =
    if bytes_eq word (codes "mains")
    then Some Mains
    else option_and_then (λ text. capacitor_of (numbers_of text)) (behind (codes "capacitor:") word)
