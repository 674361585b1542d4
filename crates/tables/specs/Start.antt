-- The slots that walks start from, found in tables. Assumes nothing.
--     way_node i o                   slot i with all its ways out, at no price; o is its legal instruction, or none
--     reached                        true at each slot that is reached
--     saved_at image reached i       slot i is a save that is reached
--     started_by image reached i     i is slot 0, or the slot after such a save
--     way_net image                  the slots below 1,024 with all their ways out
--     Begins image i                 what the starts are of any image, lawful or not: slot 0, and the slot after each save that
--                                    ways out between slots below 1,024 reach from slot 0
use Rattle.std.specs.Prelude.{◌≡◌, ℕ, suc, ◌-◌, Bool, false, if◌then◌else◌, ◌&&◌, ◌||◌, ◌⊎◌, List, [], Some, None, Option, ◌==◌, nat_lt, slice_index_or}
use Rattle.isa.specs.declared.instruction.Instruction.{Instruction}
use Rattle.isa.specs.declared.instruction.Role.TheVariants.{Save}
use Rattle.isa.specs.Image.{instruction_at}
use Rattle.paths.specs.declared.node.Successors.TheVariants.{End}
use Rattle.paths.specs.declared.node.Node.{Node}
use Rattle.paths.specs.Net.{Net, ways_of}
use Rattle.search.specs.Reach.{Reaches}
use Rattle.walks.specs.ImageGraph.{role_in}
use Rattle.walks.specs.Certified.{is_save}
use Rattle.tables.specs.Node.{successors_of, node}

abbrev pub way_node : ℕ → Option Instruction → Node
way_node i None = node i 0 End
way_node i (Some x) = node i 0 (successors_of x)

abbrev pub saved_at : List ℕ → List Bool → ℕ → Bool
saved_at image reached i = is_save (role_in (instruction_at image i)) && slice_index_or reached i false

abbrev pub started_by : List ℕ → List Bool → ℕ → Bool
started_by image reached i = i == 0 || saved_at image reached (i - 1)

abbrev pub way_net : List ℕ → Net
way_net image =
    record {
      ways = λ i. if nat_lt i 1024 then ways_of (way_node i (instruction_at image i)).successors else [];
      price = λ i. 0;
      slot = λ i. i;
    }

abbrev pub Begins : List ℕ → ℕ → Type 0
Begins image i = (i ≡ 0) ⊎ ((s : ℕ) × Reaches (way_net image) 0 s × (role_in (instruction_at image s) ≡ Save) × (i ≡ suc s))
