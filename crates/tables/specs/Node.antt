-- The nodes of a table of 1,024 slots. Assumes nothing.
--     numbered way          a way out as a slot number below 1,024, or none
--     paired a b            the ways out of an instruction, each present or not
--     successors_of x       all ways out of an instruction
--     node i price ways     the node of slot i
--     Tabled d xs f n       a table xs of 1,024 entries, those below n as f says; d past its end
use Rattle.std.specs.Prelude.{◌≡◌, ℕ, ◌<◌, if◌then◌else◌, List, length, ℤ, pos, negsuc, Some, None, Option, nat_lt, slice_index_or}
use Rattle.isa.specs.declared.instruction.Instruction.{Instruction}
use Rattle.isa.specs.Instruction.{ways_out}
use Rattle.paths.specs.declared.node.Successors.{Successors}
use Rattle.paths.specs.declared.node.Successors.TheVariants.{End, One, Both}
use Rattle.paths.specs.declared.node.Node.{Node}

abbrev pub numbered : Option ℤ → Option ℕ
numbered None = None
numbered (Some (pos n)) = if nat_lt n 1024 then Some n else None
numbered (Some (negsuc n)) = None

abbrev pub paired : Option ℕ → Option ℕ → Successors
paired (Some a) (Some b) = Both a b
paired (Some a) None = One a
paired None (Some b) = One b
paired None None = End

abbrev pub successors_of : Instruction → Successors
successors_of x = paired (numbered (ways_out x).0) (numbered (ways_out x).1)

abbrev pub node : ℕ → ℕ → Successors → Node
node i price successors = record { slot = i; price = price; successors = successors }

pub record Tabled {A : Type 0} (d : A) (xs : List A) (f : ℕ → A) (n : ℕ) : Type 0 where
  pub size : length xs ≡ 1024
  pub holds : (k : ℕ) → k < n → slice_index_or xs k d ≡ f k
