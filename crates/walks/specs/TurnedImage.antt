-- An image some of whose idle slots were turned into saves. Assumes nothing.
--     TurnedImage P before after     the images are alike, but that the idle slots of P are saves after
--     TurnedRight                    the graph after is the graph before turned at P, and the image is as lawful as it was
use Rattle.std.specs.Prelude.{◌≡◌, ℕ, Bool, true, false, ◌&&◌, List, length, Some}
use Rattle.isa.specs.declared.instruction.Instruction.{Instruction}
use Rattle.isa.specs.declared.instruction.Role.TheVariants.{Save}
use Rattle.isa.specs.Instruction.{role_of}
use Rattle.isa.specs.Image.{instruction_at}
use Rattle.isa.specs.Lawful.{Lawful}
use Rattle.pricing.specs.Model.{Model}
use Rattle.walks.specs.ImageGraph.{role_at, graph_of}
use Rattle.walks.specs.Placing.{is_idle, turned}

pub record TurnedImage (P : ℕ → Bool) (before after : List ℕ) : Type 0 where
  pub sized : length after ≡ length before
  pub turns : (i : ℕ) → (is_idle (role_at before i) && P i) ≡ true → (x : Instruction) × (instruction_at after i ≡ Some x) × (role_of x ≡ Save)
  pub keeps : (i : ℕ) → (is_idle (role_at before i) && P i) ≡ false → instruction_at after i ≡ instruction_at before i

abbrev pub TurnedRight : Type 0
TurnedRight =
    (m : Model) (P : ℕ → Bool) (before after : List ℕ) → TurnedImage P before after
    → (graph_of m after ≡ turned m.dearest (graph_of m before) P) × (Lawful before → Lawful after)
