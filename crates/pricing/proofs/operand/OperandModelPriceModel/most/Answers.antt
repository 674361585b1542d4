-- The operands that are all ones add the most.
use Rattle.std.proofs.Common.{rules, ◌≡◌, Some, None, Option, ℤ, refl}
use Rattle.std.specs.Int.Count.{ones-ones}
use Rattle.isa.specs.declared.helper.Helper.{Helper}
use Rattle.isa.specs.declared.helper.Helper.TheVariants.{Save, NextReading, Record}
use Rattle.isa.specs.declared.kind.Kind.{Kind}
use Rattle.isa.specs.declared.kind.Kind.TheVariants.{Arithmetic, Branch, Jump, Call, Exit, Load, StoreImm, StoreReg}
use Rattle.isa.specs.declared.kind.Size.{Size}
use Rattle.isa.specs.declared.kind.Size.TheVariants.{One, Two, Four, Eight}
use Rattle.isa.specs.Helper.{helper_of}
use Rattle.isa.specs.Opcode.{kind_of}
use Rattle.pricing.specs.Helper.{calling, calling_most}
use Rattle.pricing.specs.Operand.{added, added_most}
use Rattle.pricing.specs.Store.{storing, storing_most}
use Rattle.pricing.proofs.operand.OperandModelPriceModel.most.Goals as goal

calling-ones : (h : Option Helper) → calling h 0xffff_ffff_ffff_ffff ≡ calling_most h
calling-ones None = refl
calling-ones (Some Save) = refl
calling-ones (Some NextReading) = refl
calling-ones (Some Record) = refl

storing-ones : (z : Size) → storing z 0xffff_ffff_ffff_ffff ≡ storing_most z
storing-ones One = ones-ones 8
storing-ones Two = ones-ones 16
storing-ones Four = ones-ones 32
storing-ones Eight = ones-ones 64

added-ones : (k : Option Kind) (imm : ℤ) → added k imm 0xffff_ffff_ffff_ffff 0xffff_ffff_ffff_ffff ≡ added_most k imm
added-ones None imm = refl
added-ones (Some (Arithmetic w o s)) imm = refl
added-ones (Some Call) imm = calling-ones (helper_of imm)
added-ones (Some (StoreImm z)) imm = storing-ones z
added-ones (Some (StoreReg z)) imm = storing-ones z
added-ones (Some (Branch w t s)) imm = refl
added-ones (Some Jump) imm = refl
added-ones (Some Exit) imm = refl
added-ones (Some (Load z)) imm = refl

pub returns : goal.returns
returns c = let most = added-ones (kind_of c.args.opcode) c.args.imm in search (rules, most)
