-- The slots of an image as walks go along them. Assumes nothing.
--     onward_of x            the ways out that a walk may go on by from an instruction: none from a save or EXIT
--     walk_node m i o        slot i with these ways out, and its price in the model m; o is its legal instruction, or none
use Rattle.std.specs.Prelude.{ℕ, if◌then◌else◌, Some, None, Option}
use Rattle.isa.specs.declared.instruction.Instruction.{Instruction}
use Rattle.isa.specs.Instruction.{role_of}
use Rattle.pricing.specs.Model.{Model}
use Rattle.paths.specs.declared.node.Successors.{Successors}
use Rattle.paths.specs.declared.node.Successors.TheVariants.{End}
use Rattle.paths.specs.declared.node.Node.{Node}
use Rattle.walks.specs.Graph.{ending}
use Rattle.walks.specs.ImageGraph.{price_of}
use Rattle.tables.specs.Node.{successors_of, node}

abbrev pub onward_of : Instruction → Successors
onward_of x = if ending (role_of x) then End else successors_of x

abbrev pub walk_node : Model → ℕ → Option Instruction → Node
walk_node m i None = node i 0 End
walk_node m i (Some x) = node i (price_of m x) (onward_of x)
