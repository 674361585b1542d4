-- What placing saves in an image answers, what it leaves behind, and what that means in the words of walks. Assumes nothing.
--     m, image, budget, room         a price model, an image, a budget, and the length of the working list
--     placement_of m image budget    the idle slots that become saves, or the answer that refuses: every idle slot turned into
--                                    a save, and then each of them made idle again, upward, where the image is accepted so
--     unplaced a                     the refusal for want of a placement, which carries the answer a
--     answer_by p, image_by p image       the answer by a placement p, and the image that it leaves
--     placing m image budget room       the answer: the certifier's checks, and then the placement
--     placed_image m image budget room   the image that is left: the slots of the placement are saves, or it is as it was
--     answer_of u                    the answer that a refusal for want of a placement carries
--     Chosen m image budget P        some idle slots: with them turned into saves the image is accepted
--     Meaning m before budget room after r     what an answer says of the images before and after
--     Left m before after old new r            what an answer leaves in the working list
use Rattle.std.specs.Prelude.{◌≡◌, ℕ, Bool, ◌↔◌, List, Ok, Err, Result, ◌≢◌}
use Rattle.isa.specs.declared.refusal.Unplaceable.{Unplaceable}
use Rattle.isa.specs.declared.refusal.Unplaceable.TheVariants as unplaceable
use Rattle.isa.specs.declared.refusal.Refusal.{Refusal}
use Rattle.isa.specs.declared.refusal.Refusal.TheVariants.{NoPlacement}
use Rattle.pricing.specs.Model.{Model}
use Rattle.paths.specs.declared.worth.Worth.{Worth}
use Rattle.paths.specs.Worth.{worth_kind}
use Rattle.walks.specs.Acceptance.{Accepted, Answer, accepted, loop, over, Means}
use Rattle.walks.specs.ImageGraph.{graph_of}
use Rattle.walks.specs.Placing.{Within, idles, turned, Placement, left, refused, placement, Tight}
use Rattle.walks.specs.TurnedImage.{TurnedImage}
use Rattle.certifier.specs.Certify.{and_then, admission, InOrder}
use Rattle.certifier.specs.Judge.{WorthsLeft}
use Rattle.placer.specs.Turn.{idles_in, turned_image}

abbrev pub placement_of : Model → List ℕ → ℕ → Placement
placement_of m image budget = placement m.dearest (graph_of m image) budget

abbrev pub unplaced : Answer → Result (Unit {0}) Refusal
unplaced accepted = Ok tt
unplaced (loop slot) = Err (NoPlacement (unplaceable.Loop slot))
unplaced (over slot price) = Err (NoPlacement (unplaceable.OverBudget slot price))

abbrev pub answer_by : Placement → Result (Unit {0}) Refusal
answer_by (left P) = Ok tt
answer_by (refused a) = unplaced a

abbrev pub image_by : Placement → List ℕ → List ℕ
image_by (left P) image = turned_image P image
image_by (refused a) image = image

-- the image that a placement leaves, where the checks before it pass
abbrev pub left_by : Result (Unit {0}) Refusal → List ℕ → List ℕ → List ℕ
left_by (Ok u) placed image = placed
left_by (Err r) placed image = image

abbrev pub placing : Model → List ℕ → ℕ → ℕ → Result (Unit {0}) Refusal
placing m image budget room = and_then (admission image budget room) (answer_by (placement_of m image budget))

abbrev pub placed_image : Model → List ℕ → ℕ → ℕ → List ℕ
placed_image m image budget room = left_by (admission image budget room) (image_by (placement_of m image budget) image) image

abbrev pub answer_of : Unplaceable → Answer
answer_of (unplaceable.Loop slot) = loop slot
answer_of (unplaceable.OverBudget slot price) = over slot price

pub record Chosen (m : Model) (image : List ℕ) (budget : ℕ) (P : ℕ → Bool) : Type 0 where
  pub idle : Within P (idles (graph_of m image))
  pub fits : Accepted (turned m.dearest (graph_of m image) P) budget

pub record Meaning (m : Model) (before : List ℕ) (budget room : ℕ) (after : List ℕ) (r : Result (Unit {0}) Refusal) : Type 0 where
  -- accepted exactly when some choice of idle slots to turn into saves is accepted,
  pub accepted : (r ≡ Ok tt) ↔ (InOrder before budget room × ((P : ℕ → Bool) × Chosen m before budget P))
  -- and refused for want of a placement exactly when none is;
  pub refused : ((u : Unplaceable) × (r ≡ Err (NoPlacement u))) ↔ (InOrder before budget room × ((P : ℕ → Bool) → Chosen m before budget P → ⊥))
  -- the refusal carries what is so with every idle slot turned;
  pub carried : (u : Unplaceable) → r ≡ Err (NoPlacement u) → Means (turned m.dearest (graph_of m before) (idles (graph_of m before))) budget (answer_of u)
  -- after acceptance the images differ only in idle slots that are saves now, none of which can be left out;
  pub tight : r ≡ Ok tt → (P : ℕ → Bool) × TurnedImage P before after × Tight m.dearest (graph_of m before) budget P
  -- the image left is accepted by the certifier;
  pub stands : r ≡ Ok tt → InOrder after budget room × Accepted (graph_of m after) budget
  -- and refusals keep the image
  pub kept : (b : Refusal) → r ≡ Err b → after ≡ before

pub record Left (m : Model) (before after : List ℕ) (old new : List Worth) (r : Result (Unit {0}) Refusal) : Type 0 where
  -- after acceptance the worths of the image as it is left,
  pub accepted : r ≡ Ok tt → WorthsLeft worth_kind (graph_of m after) old new
  -- where every choice is over budget, those of the image with every idle slot turned,
  pub dear : (s p : ℕ) → r ≡ Err (NoPlacement (unplaceable.OverBudget s p)) → WorthsLeft worth_kind (graph_of m (turned_image (idles_in before) before)) old new
  -- and after any other refusal what it held before
  pub others : (b : Refusal) → r ≡ Err b → ((s p : ℕ) → b ≢ NoPlacement (unplaceable.OverBudget s p)) → new ≡ old
