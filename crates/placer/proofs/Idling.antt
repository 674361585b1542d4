-- The bytes of an idle slot are the one encoding of it.
use Rattle.std.proofs.lemmas.Bool.Decides.{nat_tests}
use Rattle.std.proofs.lemmas.Grind.{common_steps}
use Rattle.std.proofs.Common.{◌≡◌, ℕ, ◌+◌, ◌*◌, ◌/◌, ◌%◌, ◌^◌, ◌<◌, Bool, true, false, cond, eqb, ltb, List, [], ◌∷◌, ℤ, pos, negsuc, Some, None, Option, refl, ap, ◌∙◌, rules, arith, w16, w32, to_z}
use mir.Val.{sel, hbits}
use mir.Syntax as syntax
use Rattle.std.specs.Option.{option_map}
use Rattle.std.specs.Result.{result_ok}
use Rattle.std.proofs.lemmas.Bool.{eqb-true}
use Rattle.isa.specs.First.{or_else}
use Rattle.isa.specs.declared.slot.Slot.{Slot}
use Rattle.isa.specs.declared.kind.Width.{Width}
use Rattle.isa.specs.declared.kind.Kind.{Kind}
use Rattle.isa.specs.declared.kind.Kind.TheVariants as kind
use Rattle.isa.specs.declared.instruction.Instruction.{Instruction}
use Rattle.isa.specs.declared.refusal.Refusal.{Refusal}
use Rattle.isa.specs.Opcode.{kind_of, class_of, under, negation, arithmetic, branch, access, classes, singles, joined}
use Rattle.isa.specs.Helper.{holds}
use Rattle.isa.specs.Instruction.{role_by, role_of}
use Rattle.isa.specs.Rule.{registers_exist, zeros_kept, frame_pointer_kept, helper_known, unless, decoded_as}
use Rattle.isa.specs.Refusal.{ok_unless}
use Rattle.isa.specs.Image.{well_sized, legal_in}
use Rattle.isa.specs.Slot.{slot_count, fields_of, byte_of}
use Rattle.walks.specs.ImageGraph.{role_in, role_at}
use Rattle.walks.specs.Placing.{is_idle}
use Rattle.placer.specs.SlotBytes.{bytes_at, idle_bytes}

abbrev is_jump : Option Kind → Bool
is_jump None = false
is_jump (Some kind.Jump) = true
is_jump (Some kind.Call) = false
is_jump (Some kind.Exit) = false
is_jump (Some (kind.Arithmetic w o s)) = false
is_jump (Some (kind.Branch w o s)) = false
is_jump (Some (kind.Load z)) = false
is_jump (Some (kind.StoreImm z)) = false
is_jump (Some (kind.StoreReg z)) = false

-- the opcodes of a class are none of them JA
mapped_not : {A : Type 0} (f : A → Kind) → ((a : A) → is_jump (Some (f a)) ≡ false) → (o : Option A) → is_jump (option_map f o) ≡ false
mapped_not h1 o = grind arith

abbrev Never : List (ℕ × Option Kind) → Type 0
Never [] = Unit {0}
Never ((k, o) ∷ rest) = (is_jump o ≡ false) × Never rest

entry_not : (b : Bool) (o : Option Kind) (rest : Option (Option Kind)) → is_jump o ≡ false → is_jump (joined rest) ≡ false
    → is_jump (joined (cond b (Some o) rest)) ≡ false
unfolding joined
entry_not b o rest h1 h2 = grind arith

under_not : (n : ℕ) (table : List (ℕ × Option Kind)) → Never table → is_jump (joined (under n table)) ≡ false
unfolding under joined
under_not n [] t = refl
under_not n ((k, o) ∷ rest) t = entry_not (eqb n k) o (under n rest) t.0 (under_not n rest t.1)

arithmetic_not : (w : Width) (o : ℕ) → is_jump (arithmetic w o) ≡ false
unfolding arithmetic negation
arithmetic_not w o = grind arith

class_not : (o : ℕ) → is_jump (joined (under (class_of o) (classes o))) ≡ false
unfolding classes access branch
class_not o =
    under_not (class_of o) (classes o) (search (rules, mapped_not, arithmetic_not))

single_jump : (a b c : Bool) (rest : Option Kind) → is_jump rest ≡ false
    → is_jump (or_else (cond a (Some kind.Jump) (cond b (Some kind.Call) (cond c (Some kind.Exit) None))) rest) ≡ true → a ≡ true
single_jump a b c rest h1 h2 = grind arith

jump_opcode : (o : ℕ) → is_jump (kind_of o) ≡ true → o ≡ 5
unfolding kind_of singles under
jump_opcode o e = eqb-true o 5 (single_jump (eqb o 5) (eqb o 0x85) (eqb o 0x95) _ (class_not o) e)

idle_role : (k : Kind) (offset imm : ℤ) → is_idle (role_by k offset imm) ≡ true → (k ≡ kind.Jump) × (holds offset 0 ≡ true)
idle_role k offset imm h1 = grind arith

-- an instruction that keeps the rules has its unused fields zero
kept_zeros : (a z f h : Bool) (r s t u : Refusal) (x : Instruction)
    → is_idle (role_in (result_ok (ok_unless (unless a r (unless z s (unless f t (unless h u None)))) x))) ≡ true → (z ≡ true) × (is_idle (role_of x) ≡ true)
kept_zeros a z f h r s t u x h1 = grind arith

pub record Still (s : Slot) : Type 0 where
  opcode : s.opcode ≡ 5
  dst : s.dst ≡ 0
  src : s.src ≡ 0
  offset : holds s.offset 0 ≡ true
  imm : holds s.imm 0 ≡ true

jump_still : (k : Kind) (s : Slot) → k ≡ kind.Jump → s.opcode ≡ 5 → zeros_kept k s ≡ true → holds s.offset 0 ≡ true → Still s
jump_still k s h1 h2 h3 h4 = grind arith

decoded_still : (o : Option Kind) (s : Slot) (i : ℕ) → kind_of s.opcode ≡ o → is_idle (role_in (result_ok (decoded_as o s i))) ≡ true → Still s
decoded_still None s i same e = cc
decoded_still (Some k) s i same e =
    let p = kept_zeros (registers_exist s) (zeros_kept k s) (frame_pointer_kept k s) (helper_known k s) _ _ _ _ (record { at = i; kind = k; fields = s }) e in
    let r = idle_role k s.offset s.imm p.1 in
    let j : is_jump (kind_of s.opcode) ≡ true = ap is_jump (same ∙ ap Some r.0) in
    jump_still k s r.0 (jump_opcode s.opcode j) p.0 r.1

there_still : (sized within : Bool) (s : Slot) (i : ℕ) → is_idle (role_in (cond sized (legal_in (cond within (Some s) None) i) None)) ≡ true → Still s
there_still true true s i e = decoded_still (kind_of s.opcode) s i refl e
there_still true false s i e = cc
there_still false within s i e = cc

zero_from : (b : Bool) (n k : ℕ) → holds (sel b (pos n) (negsuc k)) 0 ≡ true → n ≡ 0
zero_from b n k h1 = grind arith

zero_field : (w : syntax.Width) (n : ℕ) → holds (to_z w n) 0 ≡ true → n ≡ 0
zero_field w n e = zero_from (ltb n (2 ^ hbits w)) n _ e

pub idle_bytes_lem : (image : List ℕ) (i : ℕ) → is_idle (role_at image i) ≡ true → bytes_at image i ≡ idle_bytes
unfolding role_at
idle_bytes_lem image i e =
    let s = there_still (well_sized image) (ltb i (slot_count image)) (fields_of image i) i e in
    let opcode : byte_of image i 0 ≡ 5 = s.opcode in
    let low : byte_of image i 1 % 16 ≡ 0 = s.dst in
    let high : byte_of image i 1 / 16 ≡ 0 = s.src in
    let offset : byte_of image i 2 + 256 * (byte_of image i 3 + 256 * 0) ≡ 0 = zero_field w16 _ s.offset in
    let imm : byte_of image i 4 + 256 * (byte_of image i 5 + 256 * (byte_of image i 6 + 256 * (byte_of image i 7 + 256 * 0))) ≡ 0 = zero_field w32 _ s.imm in
    let low_zero : byte_of image i 1 ≡ 0 = omega arith in
    let offset_zero : (byte_of image i 2 ≡ 0) × (byte_of image i 3 ≡ 0) = (omega arith, omega arith) in
    let imm_zero : (byte_of image i 4 ≡ 0) × (byte_of image i 5 ≡ 0) × (byte_of image i 6 ≡ 0) × (byte_of image i 7 ≡ 0) =
    (omega arith, omega arith, omega arith, omega arith) in
    cc

-- an idle slot is one of a well-sized image
there : (sized within : Bool) (s : Slot) (i : ℕ) → is_idle (role_in (cond sized (legal_in (cond within (Some s) None) i) None)) ≡ true
    → (sized ≡ true) × (within ≡ true)
there sized within s i h1 = grind arith

pub idle_there : (image : List ℕ) (i : ℕ) → is_idle (role_at image i) ≡ true → (well_sized image ≡ true) × (i < slot_count image)
unfolding role_at
idle_there image i h1 = grind (arith, nat_tests, common_steps)
