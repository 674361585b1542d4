-- The symbols of operations, tests and sizes. Assumes nothing.
--     assignment_of o     the assignment of an arithmetic operation; that of NEG is written out by itself
--     comparison_of t     the sign of a conditional jump
--     size_name z         the bytes of a load or a store, as the type that has them
use Rattle.std.specs.Prelude.{ℕ, List, codes}
use Rattle.isa.specs.declared.kind.Operation.{Operation}
use Rattle.isa.specs.declared.kind.Operation.TheVariants.{Add, Sub, Mul, Div, Or, And, Lsh, Rsh, Neg, Mod, Xor, Mov, Arsh}
use Rattle.isa.specs.declared.kind.Test.{Test}
use Rattle.isa.specs.declared.kind.Test.TheVariants.{Eq, Gt, Ge, Set, Ne, Sgt, Sge, Lt, Le, Slt, Sle}
use Rattle.isa.specs.declared.kind.Size.{Size}
use Rattle.isa.specs.declared.kind.Size.TheVariants.{One, Two, Four, Eight}

abbrev pub assignment_of : Operation → List ℕ
assignment_of Add = codes "+="
assignment_of Sub = codes "-="
assignment_of Mul = codes "*="
assignment_of Div = codes "/="
assignment_of Or = codes "|="
assignment_of And = codes "&="
assignment_of Lsh = codes "<<="
assignment_of Rsh = codes ">>="
assignment_of Neg = codes "= -"
assignment_of Mod = codes "%="
assignment_of Xor = codes "^="
assignment_of Mov = codes "="
assignment_of Arsh = codes "s>>="

abbrev pub comparison_of : Test → List ℕ
comparison_of Eq = codes "=="
comparison_of Gt = codes ">"
comparison_of Ge = codes ">="
comparison_of Set = codes "&"
comparison_of Ne = codes "!="
comparison_of Sgt = codes "s>"
comparison_of Sge = codes "s>="
comparison_of Lt = codes "<"
comparison_of Le = codes "<="
comparison_of Slt = codes "s<"
comparison_of Sle = codes "s<="

abbrev pub size_name : Size → List ℕ
size_name One = codes "u8"
size_name Two = codes "u16"
size_name Four = codes "u32"
size_name Eight = codes "u64"
