-- The graph of an image: a node for each slot. Assumes nothing.
--     m                        a price model
--     price_of m x             the price of an instruction: a save costs the dearest saving, any other its most, and EXIT a saving besides
--     role_at image i          what slot i is to a round; other where it has no legal instruction
--     ways_at image i          its ways out that are slot numbers; none where it has no legal instruction
--     price_at m image i       its price; 0 where it has no legal instruction
--     graph_of m image         the graph of an image
--     LawfulSound              the graph of a lawful image is sound
--     LawfulSmall              with a model that keeps the laws, no node of it costs more than two times 65,535
use Rattle.std.specs.Prelude.{ℕ, ◌+◌, ◌*◌, List, [], ◌∷◌, ◌++◌, ℤ, pos, negsuc, Some, None, Option}
use Rattle.isa.specs.declared.instruction.Instruction.{Instruction}
use Rattle.isa.specs.declared.instruction.Role.{Role}
use Rattle.isa.specs.declared.instruction.Role.TheVariants.{Save, Idle, Exit, Other}
use Rattle.isa.specs.Slot.{slot_count}
use Rattle.isa.specs.Instruction.{ways_out, role_of}
use Rattle.isa.specs.Image.{instruction_at}
use Rattle.isa.specs.Lawful.{Lawful}
use Rattle.pricing.specs.Model.{Model, Bounded}
use Rattle.walks.specs.Graph.{Graph, Sound, Small}

-- by the most of an instruction and the dearest saving
abbrev pub price_by : Role → ℕ → ℕ → ℕ
price_by Save most saving = saving
price_by Exit most saving = most + saving
price_by Idle most saving = most
price_by Other most saving = most

abbrev pub price_of : Model → Instruction → ℕ
price_of m x = price_by (role_of x) (m.most x.fields.opcode x.fields.imm) m.dearest

abbrev pub way_list : Option ℤ → List ℕ
way_list None = []
way_list (Some (pos n)) = n ∷ []
way_list (Some (negsuc n)) = []

abbrev pub role_in : Option Instruction → Role
role_in None = Other
role_in (Some x) = role_of x

abbrev pub ways_in : Option Instruction → List ℕ
ways_in None = []
ways_in (Some x) = way_list (ways_out x).0 ++ way_list (ways_out x).1

abbrev pub price_in : Model → Option Instruction → ℕ
price_in m None = 0
price_in m (Some x) = price_of m x

unfoldable pub role_at : List ℕ → ℕ → Role
role_at image i = role_in (instruction_at image i)

unfoldable pub ways_at : List ℕ → ℕ → List ℕ
ways_at image i = ways_in (instruction_at image i)

unfoldable pub price_at : Model → List ℕ → ℕ → ℕ
price_at m image i = price_in m (instruction_at image i)

abbrev pub graph_of : Model → List ℕ → Graph
graph_of m image =
    record {
      size = slot_count image;
      role = role_at image;
      ways = ways_at image;
      price = price_at m image;
      slot = λ i. i;
    }

abbrev pub LawfulSound : Type 0
LawfulSound = (m : Model) (image : List ℕ) → Lawful image → Sound (graph_of m image)

abbrev pub LawfulSmall : Type 0
LawfulSmall = (m : Model) → Bounded m → (image : List ℕ) → Lawful image → Small (graph_of m image) (2 * 65535)
