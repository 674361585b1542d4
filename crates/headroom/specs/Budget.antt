-- The least budget at which an image is accepted. Assumes nothing.
--     m, image, room               a price model, an image, and the length of the working list
--     most_budget                  the largest budget that the certifier takes
--     AcceptedAt m image room b    the certifier accepts the image at budget b
--     LeastBudget m image room b   it does so at b and at every larger budget that it takes, and at none below b
--     NoBudget m image room r      it does so at no budget, and r is what it answers at the largest
--     BudgetTold m image room x    the answer x tells the least budget, or that there is none
--     answer_of x                  an answer without what it tells
--     Dearer m image b p           a budget below p does not suffice, and p lies above b
use Rattle.std.specs.Prelude.{◌≡◌, ℕ, ◌<◌, ◌≤◌, List, Ok, Err, Result}
use Rattle.isa.specs.declared.refusal.Refusal.{Refusal}
use Rattle.pricing.specs.Model.{Model}
use Rattle.certifier.specs.Certify.{certification}

abbrev pub most_budget : ℕ
most_budget = 100000000

module _ (m : Model) (image : List ℕ) (room : ℕ) where
  abbrev pub AcceptedAt : ℕ → Type 0
  AcceptedAt b = certification m image b room ≡ Ok tt

  pub record LeastBudget (b : ℕ) : Type 0 where
    pub some : 1 ≤ b
    pub most : b ≤ most_budget
    pub accepted : (c : ℕ) → b ≤ c → c ≤ most_budget → AcceptedAt c
    pub refused : (c : ℕ) → c < b → AcceptedAt c → ⊥

  pub record NoBudget (r : Refusal) : Type 0 where
    pub answer : certification m image most_budget room ≡ Err r
    pub refused : (c : ℕ) → AcceptedAt c → ⊥

  abbrev pub BudgetTold : Result ℕ Refusal → Type 0
  BudgetTold (Ok b) = LeastBudget b
  BudgetTold (Err r) = NoBudget r

  pub record Dearer (b p : ℕ) : Type 0 where
    pub above : b < p
    pub most : p ≤ most_budget
    pub refused : (c : ℕ) → c < p → AcceptedAt c → ⊥

abbrev pub answer_of : {A : Type 0} → Result A Refusal → Result (Unit {0}) Refusal
answer_of (Ok x) = Ok tt
answer_of (Err r) = Err r
