-- What a step means: what it leaves as it was, and what it tells.
use Rattle.std.proofs.Common.{◌≡◌, ℕ, Bool, true, false, cond, ltb, ◌⊎◌, List, length, ℤ, Some, None, Option, sym, refl, ap, ◌∙◌, subst, inl, inr, ⊎_elim}
use Rattle.std.proofs.lemmas.Bool.{cases_Bool, cond-true, cond-false}
use Rattle.isa.specs.declared.kind.Size.{Size}
use Rattle.isa.specs.declared.kind.Kind.{Kind}
use Rattle.isa.specs.declared.kind.Kind.TheVariants.{Arithmetic, Branch, Jump, Call, Exit, Load, StoreImm, StoreReg}
use Rattle.isa.specs.declared.instruction.Instruction.{Instruction}
use Rattle.isa.specs.declared.instruction.Role.{Role}
use Rattle.isa.specs.declared.instruction.Role.TheVariants as role
use Rattle.isa.specs.Instruction.{next_of, target_of, ways_by, role_of_call, role_by, role_of}
use Rattle.machine.specs.declared.ending.Ending.{Ending}
use Rattle.machine.specs.declared.ending.Ending.TheVariants as ending
use Rattle.machine.specs.declared.ending.Trap.TheVariants.{BadSlot, OutsideMemory, TapeFinished, LogFull}
use Rattle.machine.specs.declared.effect.Work.{Work}
use Rattle.machine.specs.declared.effect.Effect.TheVariants.{End, Other}
use Rattle.isa.specs.declared.helper.Helper.{Helper}
use Rattle.isa.specs.declared.helper.Helper.TheVariants as helper
use Rattle.machine.specs.declared.state.State.{State}
use Rattle.alu.specs.Comparison.{compared}
use Rattle.machine.specs.Effect.{work_of, effect_in}
use Rattle.machine.specs.Execute.{went_on, read_as, called_by, executed_by}
use Rattle.machine.specs.Fetch.{fetched}
use Rattle.isa.specs.Helper.{holds, helper_of}
use Rattle.alu.specs.Memory.{inside, loaded}
use Rattle.machine.specs.Operand.{source_value, address_of}
use Rattle.machine.specs.State.{register_of, moved_to, ended_by, ended}
use Rattle.machine.specs.Step.{step_by, effect_at, is_save, saves_as, saves_by, saves_at, mains_step, mains_effect, LeadsTo, StepLaws}

module _ (σ : State) (goes : ended σ ≡ false) where
  -- if τ has ended, then nothing else of σ was changed
  Alone : State → Type 0
  Alone τ = ended τ ≡ true → (e : Ending) × (τ ≡ ended_by σ e)

  going : (τ : State) → ended τ ≡ ended σ → Alone τ
  unfolding Alone
  going τ same over = cc

  stopping : (e : Ending) → Alone (ended_by σ e)
  unfolding Alone
  stopping e over = (e, refl)

  either : (b : Bool) (τ υ : State) → Alone τ → Alone υ → Alone (cond b τ υ)
  either true τ υ p q = p
  either false τ υ p q = q

  read_alone : (v : Option ℕ) (x : Instruction) → Alone (read_as v x σ)
  read_alone (Some v) x = going _ refl
  read_alone None x = stopping (ending.Trap OutsideMemory)

  called_alone : (h : Option Helper) (tape : List ℕ) (x : Instruction) → Alone (called_by h tape x σ)
  called_alone (Some helper.Save) tape x = going _ refl
  called_alone (Some helper.NextReading) tape x = either (ltb σ.place (length tape)) _ _ (going _ refl) (stopping (ending.Trap TapeFinished))
  called_alone (Some helper.Record) tape x = either (ltb σ.logged 64) _ _ (going _ refl) (stopping (ending.Trap LogFull))
  called_alone None tape x = stopping (ending.Trap BadSlot)

  executed_alone : (k : Kind) (tape : List ℕ) (x : Instruction) → Alone (executed_by k tape x σ)
  executed_alone (Arithmetic w o s) tape x = going _ refl
  executed_alone (Branch w t s) tape x =
      either (compared w t (register_of σ x.fields.dst) (source_value s x σ)) _ _ (going _ refl) (going _ refl)
  executed_alone Jump tape x = going _ refl
  executed_alone Call tape x = called_alone (helper_of x.fields.imm) tape x
  executed_alone Exit tape x = stopping ending.Exit
  executed_alone (Load z) tape x = read_alone (loaded σ.memory (address_of x.fields.src x σ) z) x
  executed_alone (StoreImm z) tape x =
      either (inside (address_of x.fields.dst x σ) z) _ _ (going _ refl) (stopping (ending.Trap OutsideMemory))
  executed_alone (StoreReg z) tape x =
      either (inside (address_of x.fields.dst x σ) z) _ _ (going _ refl) (stopping (ending.Trap OutsideMemory))

  stepped_alone : (o : Option Instruction) (tape : List ℕ) → Alone (step_by o tape σ)
  stepped_alone (Some x) tape = executed_alone x.kind tape x
  stepped_alone None tape = stopping (ending.Trap BadSlot)

-- an ending's number says that the state has ended
has_ended : (σ : State) (e : Ending) → ended (ended_by σ e) ≡ true
has_ended σ (ending.Trap BadSlot) = refl
has_ended σ (ending.Trap OutsideMemory) = refl
has_ended σ (ending.Trap TapeFinished) = refl
has_ended σ (ending.Trap LogFull) = refl
has_ended σ ending.Exit = refl

-- a state that has not ended stands at a way out that a kind of instruction has
Follows : Kind → Instruction → State → Type 0
Follows k x τ =
    ended τ ≡ false → ((ways_by k (next_of x) (target_of x)).0 ≡ Some τ.slot) ⊎ ((ways_by k (next_of x) (target_of x)).1 ≡ Some τ.slot)

module _ (σ : State) (x : Instruction) where
  stopped : (k : Kind) (e : Ending) → Follows k x (ended_by σ e)
  unfolding Follows
  stopped k e goes = let over = has_ended σ e in cc

  follows_either : (k : Kind) (b : Bool) (τ υ : State) → Follows k x τ → Follows k x υ → Follows k x (cond b τ υ)
  follows_either k true τ υ p q = p
  follows_either k false τ υ p q = q

  read_follows : (z : Size) (v : Option ℕ) → Follows (Load z) x (read_as v x σ)
  unfolding Follows
  read_follows z (Some v) = λ goes. inl refl
  read_follows z None = stopped (Load z) (ending.Trap OutsideMemory)

  called_follows : (h : Option Helper) (tape : List ℕ) → Follows Call x (called_by h tape x σ)
  unfolding Follows
  called_follows (Some helper.Save) tape = λ goes. inl refl
  called_follows (Some helper.NextReading) tape =
      follows_either Call (ltb σ.place (length tape)) _ _ (λ goes. inl refl) (stopped Call (ending.Trap TapeFinished))
  called_follows (Some helper.Record) tape =
      follows_either Call (ltb σ.logged 64) _ _ (λ goes. inl refl) (stopped Call (ending.Trap LogFull))
  called_follows None tape = stopped Call (ending.Trap BadSlot)

  executed_follows : (k : Kind) (tape : List ℕ) → Follows k x (executed_by k tape x σ)
  unfolding Follows
  executed_follows (Arithmetic w o s) tape = λ goes. inl refl
  executed_follows (Branch w t s) tape =
      follows_either (Branch w t s) (compared w t (register_of σ x.fields.dst) (source_value s x σ)) _ _ (λ goes. inr refl) (λ goes. inl refl)
  executed_follows Jump tape = λ goes. inr refl
  executed_follows Call tape = called_follows (helper_of x.fields.imm) tape
  executed_follows Exit tape = stopped Exit ending.Exit
  executed_follows (Load z) tape = read_follows z (loaded σ.memory (address_of x.fields.src x σ) z)
  executed_follows (StoreImm z) tape =
      follows_either (StoreImm z) (inside (address_of x.fields.dst x σ) z) _ _ (λ goes. inl refl) (stopped (StoreImm z) (ending.Trap OutsideMemory))
  executed_follows (StoreReg z) tape =
      follows_either (StoreReg z) (inside (address_of x.fields.dst x σ) z) _ _ (λ goes. inl refl) (stopped (StoreReg z) (ending.Trap OutsideMemory))

stepped_follows : (o : Option Instruction) (tape : List ℕ) (σ : State) → ended (step_by o tape σ) ≡ false
    → (x : Instruction) × (o ≡ Some x) × LeadsTo x (step_by o tape σ).slot
unfolding Follows
stepped_follows (Some x) tape σ goes = (x, refl, executed_follows σ x x.kind tape goes)
stepped_follows None tape σ goes = cc

-- a step that does not end the run began at a state that had not ended
began : (image tape : List ℕ) (σ : State) → ended (mains_step image tape σ) ≡ false → ended σ ≡ false
unfolding mains_step
began image tape σ goes =
    ⊎_elim (λ (over : ended σ ≡ true). ap ended (sym (cond-true _ _ _ over)) ∙ goes) (λ (h : ended σ ≡ false). h) (cases_Bool (ended σ))

-- the helper that makes a CALL a save changes the slot alone
save_called : (h : Option Helper) (tape : List ℕ) (x : Instruction) (σ : State) → saves_as (role_of_call h) ≡ true → called_by h tape x σ ≡ went_on x σ
save_called (Some helper.Save) tape x σ save = refl
save_called (Some helper.NextReading) tape x σ save = cc
save_called (Some helper.Record) tape x σ save = cc
save_called None tape x σ save = cc

idle_saves_not : (b : Bool) → saves_as (cond b role.Idle role.Other) ≡ false
idle_saves_not true = refl
idle_saves_not false = refl

save_moves : (k : Kind) (tape : List ℕ) (x : Instruction) (σ : State) → saves_as (role_by k x.fields.offset x.fields.imm) ≡ true
    → executed_by k tape x σ ≡ went_on x σ
save_moves (Arithmetic w o s) tape x σ save = cc
save_moves (Branch w t s) tape x σ save = cc
save_moves Jump tape x σ save = let no = idle_saves_not (holds x.fields.offset 0) in cc
save_moves Call tape x σ save = save_called (helper_of x.fields.imm) tape x σ save
save_moves Exit tape x σ save = cc
save_moves (Load z) tape x σ save = cc
save_moves (StoreImm z) tape x σ save = cc
save_moves (StoreReg z) tape x σ save = cc

saved_moves : (o : Option Instruction) (tape : List ℕ) (σ : State) → saves_by o ≡ true → (z : ℤ) × (step_by o tape σ ≡ moved_to σ z)
saved_moves (Some x) tape σ save = (next_of x, save_moves x.kind tape x σ save)
saved_moves None tape σ save = cc

not_save : (e : Bool) (x : Work) → is_save (cond e (End x) (Other x)) ≡ false
not_save true x = refl
not_save false x = refl

role_told : (r : Role) (e : Bool) (x : Work) → is_save (effect_in r e x) ≡ saves_as r
role_told role.Save e x = refl
role_told role.Idle e x = not_save e x
role_told role.Exit e x = not_save e x
role_told role.Other e x = not_save e x

save_told : (o : Option Instruction) (tape : List ℕ) (σ : State) → is_save (effect_at o tape σ) ≡ saves_by o
save_told (Some x) tape σ = role_told _ _ _
save_told None tape σ = refl

pub stepped : (image tape : List ℕ) (σ : State) → StepLaws image tape σ
unfolding mains_step mains_effect saves_at Alone
stepped image tape σ = record {
  stays = λ over. cond-true _ _ _ over;
  ends = λ goes over.
      let is = cond-false _ _ _ goes in
      let p = stepped_alone σ goes (fetched image σ.slot) tape (ap ended (sym is) ∙ over) in (p.0, is ∙ p.1);
  moves = λ goes.
      let is = cond-false _ _ _ (began image tape σ goes) in
      let p = stepped_follows (fetched image σ.slot) tape σ (ap ended (sym is) ∙ goes) in
      (p.0, p.1, subst (λ (τ : State). LeadsTo p.0 τ.slot) (sym is) p.2);
  lacks = λ goes none. (
    cond-false _ _ _ goes ∙ ap (λ o. step_by o tape σ) none,
    cond-false _ _ _ goes ∙ ap (λ o. effect_at o tape σ) none,
  );
  works = λ goes x here.
      let left = cond-false _ _ _ goes ∙ ap (λ o. step_by o tape σ) here in
      cond-false _ _ _ goes ∙ ap (λ o. effect_at o tape σ) here ∙ ap (λ e. effect_in (role_of x) e (work_of x σ)) (sym (ap ended left));
  saves = λ goes save. let p = saved_moves (fetched image σ.slot) tape σ save in (p.0, cond-false _ _ _ goes ∙ p.1);
  tells = λ goes. ap is_save (cond-false _ _ _ goes) ∙ save_told (fetched image σ.slot) tape σ;
}
