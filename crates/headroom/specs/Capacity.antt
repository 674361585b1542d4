-- The smallest capacitor that a round fits. Assumes nothing.
--     m, image, room            a price model, an image, and the length of the working list
--     v                         the voltages of a capacitor in millivolts, and the energy of a unit in picojoules
--     rated v c                 such a capacitor of c microfarads
--     Enough v budget o         o is the least capacity whose budget is as large as this one, or none within the limits is
--     Fits v m image room c         a capacitor of c microfarads is within the limits, and the image is accepted at its budget
--                               (at the largest that the certifier takes, where its budget is larger)
--     LeastCapacity c           every capacity from c on fits, up to the largest, and none below c
--     CapacityRefused r         why nothing is told: the other numbers are outside their limits, or else no budget is accepted
--     CapacityTold x            the answer x tells the least capacity, that none fits, or why neither can be told
use Rattle.std.specs.Prelude.{ℕ, ◌<◌, ◌≤◌, min, ◌↔◌, List, Some, None, Ok, Err, Option, Result}
use Rattle.isa.specs.declared.refusal.Refusal.{Refusal}
use Rattle.isa.specs.declared.refusal.Refusal.TheVariants.{SupplyNumbers}
use Rattle.pricing.specs.Model.{Model}
use Rattle.supply.specs.Ratings.{Ratings, ratings_of, Within, budget_of}
use Rattle.headroom.specs.declared.capacity.Voltages.{Voltages}
use Rattle.headroom.specs.Budget.{most_budget, AcceptedAt, NoBudget}

module _ (v : Voltages) where
  abbrev pub rated : ℕ → Ratings
  rated c = ratings_of c v.top v.bottom v.unit

  pub record EnoughFrom (budget c : ℕ) : Type 0 where
    pub some : 1 ≤ c
    pub most : c ≤ 100000
    pub from : (d : ℕ) → (c ≤ d) ↔ (budget ≤ budget_of (rated d))

  abbrev pub Enough : ℕ → Option ℕ → Type 0
  Enough budget (Some c) = EnoughFrom budget c
  Enough budget None = (d : ℕ) → d ≤ 100000 → budget_of (rated d) < budget

  module _ (m : Model) (image : List ℕ) (room : ℕ) where
    pub record Fits (c : ℕ) : Type 0 where
      pub within : Within (rated c)
      pub accepted : AcceptedAt m image room (min (budget_of (rated c)) most_budget)

    pub record LeastCapacity (c : ℕ) : Type 0 where
      pub most : c ≤ 100000
      pub fits : (d : ℕ) → c ≤ d → d ≤ 100000 → Fits d
      pub less : (d : ℕ) → d < c → Fits d → ⊥

    pub data CapacityRefused : Refusal → Type 0 where
      numbers : ((d : ℕ) → Within (rated d) → ⊥) → CapacityRefused SupplyNumbers
      image_refused : {r : Refusal} → Within (rated 1) → NoBudget m image room r → CapacityRefused r

    abbrev pub CapacityTold : Result (Option ℕ) Refusal → Type 0
    CapacityTold (Ok (Some c)) = LeastCapacity c
    CapacityTold (Ok None) = (d : ℕ) → Fits d → ⊥
    CapacityTold (Err r) = CapacityRefused r
