-- The least budget and the least capacity in plain numbers. Assumes nothing.
--     least_in x         what is told of a least budget x, or of why there is none
--     own_least o        what is told where the call from C refuses by itself
--     BudgetFound m image old new a     a tells the least budget of the image, and the working list is left as it says
--     capacity_in x, own_capacity o, CapacityFound v m image old new a     the same of the least capacity at the voltages v
--     voltages_of top bottom unit     the voltages of these numbers
use Rattle.std.specs.Prelude.{◌≡◌, ℕ, List, length, Some, None, Ok, Err, Option, Result}
use Rattle.isa.specs.declared.refusal.Refusal.{Refusal}
use Rattle.pricing.specs.Model.{Model}
use Rattle.paths.specs.declared.worth.Worth.{Worth}
use Rattle.walks.specs.ImageGraph.{graph_of}
use Rattle.certifier.specs.Certify.{Left}
use Rattle.headroom.specs.Budget.{BudgetTold, answer_of}
use Rattle.headroom.specs.Capacity.{CapacityTold}
use Rattle.headroom.specs.declared.capacity.Voltages.{Voltages}
use Rattle.yatesorrel_c.specs.declared.told.Own.{Own}
use Rattle.yatesorrel_c.specs.declared.least.PlainLeast.{PlainLeast}
use Rattle.yatesorrel_c.specs.declared.least.PlainCapacity.{PlainCapacity}
use Rattle.yatesorrel_c.specs.Told.{answer_in, own_answer}

abbrev pub least_in : Result ℕ Refusal → PlainLeast
least_in (Ok b) = record { answer = answer_in None; budget = b }
least_in (Err r) = record { answer = answer_in (Some r); budget = 0 }

abbrev pub own_least : Own → PlainLeast
own_least o = record { answer = own_answer o; budget = 0 }

pub record BudgetFound (m : Model) (image : List ℕ) (old new : List Worth) (a : PlainLeast) : Type 0 where
  pub found : Result ℕ Refusal
  pub least : BudgetTold m image (length old) found
  pub left : Left (graph_of m image) old new (answer_of found)
  pub told : a ≡ least_in found

abbrev pub capacity_in : Result (Option ℕ) Refusal → PlainCapacity
capacity_in (Ok (Some c)) = record { answer = answer_in None; microfarads = c }
capacity_in (Ok None) = record { answer = answer_in None; microfarads = 0 }
capacity_in (Err r) = record { answer = answer_in (Some r); microfarads = 0 }

abbrev pub own_capacity : Own → PlainCapacity
own_capacity o = record { answer = own_answer o; microfarads = 0 }

abbrev pub voltages_of : ℕ → ℕ → ℕ → Voltages
voltages_of top bottom unit = record { top = top; bottom = bottom; unit = unit }

pub record CapacityFound (v : Voltages) (m : Model) (image : List ℕ) (old new : List Worth) (a : PlainCapacity) : Type 0 where
  pub found : Result (Option ℕ) Refusal
  pub least : CapacityTold v m image (length old) found
  pub left : Left (graph_of m image) old new (answer_of found)
  pub told : a ≡ capacity_in found
