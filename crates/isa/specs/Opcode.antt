-- The opcode rules: which bytes are opcodes, and what each of them means. Assumes nothing.
--     class_of o, code_of o, source_of o     the parts of an opcode byte: its low three bits, its high four, and the bit K or X
--     operations, tests, sizes               the codes of arithmetic, of conditional jumps, and of loads and stores
--     under n table                          the entry under a number
--     arithmetic w o, branch w o, access o     the meaning of a byte of such a class
--     kind_of o                              the meaning of any byte, or none
use Rattle.std.specs.Prelude.{ℕ, ◌/◌, ◌%◌, if◌then◌else◌, List, [], ◌∷◌, Some, None, Option, ◌==◌}
use Rattle.std.specs.Option.{option_map}
use Rattle.isa.specs.First.{or_else}
use Rattle.isa.specs.declared.kind.Width.{Width}
use Rattle.isa.specs.declared.kind.Width.TheVariants.{Low32, Full64}
use Rattle.isa.specs.declared.kind.Operation.{Operation}
use Rattle.isa.specs.declared.kind.Operation.TheVariants as operation
use Rattle.isa.specs.declared.kind.Test.{Test}
use Rattle.isa.specs.declared.kind.Test.TheVariants as test
use Rattle.isa.specs.declared.kind.Source.{Source}
use Rattle.isa.specs.declared.kind.Source.TheVariants.{Imm, Register}
use Rattle.isa.specs.declared.kind.Size.{Size}
use Rattle.isa.specs.declared.kind.Size.TheVariants.{One, Two, Four, Eight}
use Rattle.isa.specs.declared.kind.Kind.{Kind}
use Rattle.isa.specs.declared.kind.Kind.TheVariants.{Arithmetic, Branch, Jump, Call, Exit, Load, StoreImm, StoreReg}

-- the instruction class: LD 0, LDX 1, ST 2, STX 3, ALU 4, JMP 5, JMP32 6, ALU64 7
unfoldable pub class_of : ℕ → ℕ
class_of o = o % 8

unfoldable pub code_of : ℕ → ℕ
code_of o = o / 16

-- K, the second operand is imm, or X, it is the register src
unfoldable pub source_of : ℕ → Source
source_of o = if o / 8 % 2 == 0 then Imm else Register

unfoldable pub under : {A : Type 0} → ℕ → List (ℕ × A) → Option A
under n [] = None
under n ((k, a) ∷ rest) = if n == k then Some a else under n rest

unfoldable pub operations : List (ℕ × Operation)
operations =
    (0, operation.Add) ∷ (1, operation.Sub) ∷ (2, operation.Mul) ∷ (3, operation.Div) ∷ (4, operation.Or) ∷ (5, operation.And)
    ∷ (6, operation.Lsh) ∷ (7, operation.Rsh) ∷ (9, operation.Mod) ∷ (10, operation.Xor) ∷ (11, operation.Mov)
    ∷ (12, operation.Arsh) ∷ []

unfoldable pub tests : List (ℕ × Test)
tests =
    (1, test.Eq) ∷ (2, test.Gt) ∷ (3, test.Ge) ∷ (4, test.Set) ∷ (5, test.Ne) ∷ (6, test.Sgt) ∷ (7, test.Sge)
    ∷ (10, test.Lt) ∷ (11, test.Le) ∷ (12, test.Slt) ∷ (13, test.Sle) ∷ []

-- a load or a store, by the five bits above its class
unfoldable pub sizes : List (ℕ × Size)
sizes = (12, Four) ∷ (13, Two) ∷ (14, One) ∷ (15, Eight) ∷ []

-- NEG has the code 8, and is legal as K alone
unfoldable pub negation : Width → ℕ → Option Kind
negation w o = if o / 8 == 16 then Some (Arithmetic w operation.Neg Imm) else None

unfoldable pub arithmetic : Width → ℕ → Option Kind
arithmetic w o = or_else (option_map (λ op. Arithmetic w op (source_of o)) (under (code_of o) operations)) (negation w o)

unfoldable pub branch : Width → ℕ → Option Kind
branch w o = option_map (λ t. Branch w t (source_of o)) (under (code_of o) tests)

unfoldable pub access : (Size → Kind) → ℕ → Option Kind
access f o = option_map f (under (o / 8) sizes)

-- what the bytes of a class mean
unfoldable pub classes : ℕ → List (ℕ × Option Kind)
classes o =
    (1, access Load o) ∷ (2, access StoreImm o) ∷ (3, access StoreReg o)
    ∷ (4, arithmetic Low32 o) ∷ (5, branch Full64 o) ∷ (6, branch Low32 o) ∷ (7, arithmetic Full64 o) ∷ []

-- JA, CALL and EXIT, which are of class JMP too
unfoldable pub singles : List (ℕ × Kind)
singles = (0x05, Jump) ∷ (0x85, Call) ∷ (0x95, Exit) ∷ []

unfoldable pub joined : {A : Type 0} → Option (Option A) → Option A
joined None = None
joined (Some a) = a

unfoldable pub kind_of : ℕ → Option Kind
kind_of o = or_else (under o singles) (joined (under (class_of o) (classes o)))
