-- The whole table is compared with the rule once, by computing both.
use Rattle.std.proofs.Common.{None, refl, rules}
use Rattle.isa.specs.Opcode.{kind_of, singles, classes, joined, access, branch, arithmetic, negation, sizes, tests, operations, under, source_of, code_of, class_of}
use Rattle.isa.proofs.Carried.{carried}
use Rattle.isa.proofs.opcode.kind_of.Goals as goal

pub returns : goal.returns
unfolding kind_of singles classes joined access branch arithmetic negation sizes tests operations under source_of code_of class_of
returns c = carried kind_of 256 _ None refl c.args.opcode (search rules)
