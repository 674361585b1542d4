-- The machine of a round keeps the laws of a machine, where its image is lawful.
use Rattle.std.proofs.Common.{◌≡◌, ℕ, ◌+◌, ◌<◌, ◌≤◌, Bool, true, false, List, [], ◌∷◌, ◌++◌, ℤ, pos, negsuc, Some, sym, refl, ap, ◌∙◌, inl, inr, ⊎_elim, arith}
use Rattle.isa.specs.declared.instruction.Instruction.{Instruction}
use Rattle.isa.specs.declared.instruction.Role.{Role}
use Rattle.isa.specs.declared.instruction.Role.TheVariants.{Save, Idle, Exit, Other}
use Rattle.isa.specs.Image.{instruction_at}
use Rattle.isa.specs.Instruction.{ways_out, role_of}
use Rattle.isa.specs.Lawful.{Inside, Lawful}
use Rattle.isa.specs.Slot.{slot_count}
use Rattle.machine.specs.declared.effect.Work.{Work}
use Rattle.machine.specs.declared.state.State.{State}
use Rattle.machine.specs.Effect.{work_of, effect_in}
use Rattle.machine.specs.Fetch.{fetched}
use Rattle.machine.specs.Process.{Steps, Steps.begin, Steps.plain, Steps.save}
use Rattle.machine.specs.Run.{mains}
use Rattle.machine.specs.State.{ended}
use Rattle.machine.specs.Step.{saves_as, saves_by, saves_at, mains_step}
use Rattle.machine.proofs.Stepping.{stepped}
use Rattle.paths.specs.Net.{In}
use Rattle.pricing.specs.Model.{Model, Bounded}
use Rattle.walks.specs.Certified.{is_save}
use Rattle.walks.specs.Graph.{ending}
use Rattle.walks.specs.ImageGraph.{price_by, price_of, way_list, role_in, ways_in, price_in, role_at, ways_at, price_at}
use Rattle.walks.proofs.Imaging.{lawful_sound, lawful_placeable}
use Rattle.claims.specs.Machine.{StepObeys}
use Rattle.claims.specs.Amount.{spending_of, amount_for, pending, amount_of}
use Rattle.claims.specs.Round.{node_of, round_of, RoundObeys}

-- what a step draws, by the role of its instruction, against the price of that role
module _ (d : Model) (bounded : Bounded d) where
  going : (r : Role) (x : Work) (p most : ℕ) → spending_of d x ≤ most → amount_for d (effect_in r false x) p ≤ price_by r most d.dearest
  going Save x p most h = bounded.saving_within p
  going Idle x p most h = h
  going Exit x p most h = omega arith
  going Other x p most h = h

  completing : (r : Role) (e : Bool) (x : Work) (p most : ℕ) → ending r ≡ true → spending_of d x ≤ most
      → amount_for d (effect_in r e x) p ≤ price_by r most d.dearest
  completing Save e x p most z h = bounded.saving_within p
  completing Exit true x p most z h = let s = bounded.saving_within p in omega arith
  completing Exit false x p most z h = omega arith
  completing Idle e x p most z h = absurd cc
  completing Other e x p most z h = absurd cc

  stopping : (r : Role) (e : Bool) (x : Work) (p most : ℕ) → spending_of d x ≤ most
      → amount_for d (effect_in r e x) p ≤ price_by r most d.dearest + d.dearest
  stopping Save e x p most h = let s = bounded.saving_within p in omega arith
  stopping Exit true x p most h = let s = bounded.saving_within p in omega arith
  stopping Exit false x p most h = omega arith
  stopping Idle true x p most h = let s = bounded.saving_within p in omega arith
  stopping Idle false x p most h = omega arith
  stopping Other true x p most h = let s = bounded.saving_within p in omega arith
  stopping Other false x p most h = omega arith

save_same : (r : Role) → saves_as r ≡ is_save r
save_same Save = refl
save_same Idle = refl
save_same Exit = refl
save_same Other = refl

in_left : (t : ℕ) (a b : List ℕ) → In t a → In t (a ++ b)
in_left t [] b h = absurd h
in_left t (x ∷ a) b (inl e) = inl e
in_left t (x ∷ a) b (inr h) = inr (in_left t a b h)

in_right : (t : ℕ) (a b : List ℕ) → In t b → In t (a ++ b)
in_right t [] b h = h
in_right t (x ∷ a) b h = inr (in_right t a b h)

-- a slot that a way out inside the image leads to is a node of it, and stands in the list of ways out
there : (z : ℤ) (n : ℕ) → Inside (Some z) n → (i : ℕ) × (z ≡ pos i) × (i < n)
there (pos k) n h = (k, refl, h)
there (negsuc k) n h = absurd h

listed : (z : ℤ) (n : ℕ) → Inside (Some z) n → In (node_of z) (way_list (Some z))
listed (pos k) n h = inl refl
listed (negsuc k) n h = absurd h

module _ (d : Model) (image tape : List ℕ) (lawful : Lawful image) where
  -- where a state stands, and the instruction there
  record Stands (σ : State) : Type 0 where
    pub node : ℕ
    pub slot_is : σ.slot ≡ pos node
    pub instruction : Instruction
    pub here : instruction_at image node ≡ Some instruction

  stands_in : {σ : State} → (i : ℕ) × (σ.slot ≡ pos i) × (i < slot_count image) → Stands σ
  stands_in q = let x = lawful.legal q.0 q.2 in record { node = q.0; slot_is = q.1; instruction = x.0; here = x.1 }

  fetched_at : (z : ℤ) (x : Instruction) → fetched image z ≡ Some x → (i : ℕ) × (instruction_at image i ≡ Some x)
  fetched_at (pos i) x e = (i, e)
  fetched_at (negsuc i) x e = absurd cc

  insides : (σ : State) (x : Instruction) → fetched image σ.slot ≡ Some x
      → Inside (ways_out x).0 (slot_count image) × Inside (ways_out x).1 (slot_count image)
  insides σ x e = let q = fetched_at σ.slot x e in lawful.inside q.0 x q.1

  stepped_stands : (σ : State) → ended (mains_step image tape σ) ≡ false → Stands (mains_step image tape σ)
  stepped_stands σ goes =
      let p = (stepped image tape σ).moves goes in
      let x = p.0 in
      let z = (mains_step image tape σ).slot in
      let n = slot_count image in
      let s = insides σ x p.1 in
      stands_in
      (⊎_elim (λ (e : (ways_out x).0 ≡ Some z). there z n (rw e at s.0)) (λ (e : (ways_out x).1 ≡ Some z). there z n (rw e at s.1)) p.2)

  stands : {n k : ℕ} {σ : State} → Steps (mains image tape) n k σ → ended σ ≡ false → Stands σ
  stands begin goes = stands_in (0, refl, (lawful_sound d image lawful).some)
  stands (plain {σ = σ} s live plain-one) goes = stepped_stands σ goes
  stands (save {σ = σ} s live saves) goes = stepped_stands σ goes

  module _ (bounded : Bounded d) (σ : State) (live : ended σ ≡ false) (at : Stands σ) where
    abbrev x : Instruction
    x = at.instruction

    fetch_is : fetched image σ.slot ≡ Some x
    fetch_is = ap (fetched image) at.slot_is ∙ at.here

    role_is : role_at image (node_of σ.slot) ≡ role_of x
    unfolding role_at
    role_is = ap (λ (z : ℤ). role_at image (node_of z)) at.slot_is ∙ ap role_in at.here

    price_is : price_at d image (node_of σ.slot) ≡ price_of d x
    unfolding price_at
    price_is = ap (λ (z : ℤ). price_at d image (node_of z)) at.slot_is ∙ ap (price_in d) at.here

    ways_are : ways_at image (node_of σ.slot) ≡ ways_in (Some x)
    unfolding ways_at
    ways_are = ap (λ (z : ℤ). ways_at image (node_of z)) at.slot_is ∙ ap ways_in at.here

    save_is : saves_at image σ ≡ is_save (role_at image (node_of σ.slot))
    unfolding saves_at
    save_is = ap saves_by fetch_is ∙ save_same (role_of x) ∙ ap is_save (sym role_is)

    amount_is : (κ : State) → amount_of d image tape κ σ ≡ amount_for d (effect_in (role_of x) (ended (mains_step image tape σ)) (work_of x σ)) (pending κ σ)
    unfolding amount_of
    amount_is κ = ap (λ e. amount_for d e (pending κ σ)) ((stepped image tape σ).works live x fetch_is)

    spent : spending_of d (work_of x σ) ≤ d.most x.fields.opcode x.fields.imm
    spent = bounded.spending_within _ _ _ _

    moves : ended (mains_step image tape σ) ≡ false → In (node_of (mains_step image tape σ).slot) (ways_at image (node_of σ.slot))
    moves goes =
        let p = (stepped image tape σ).moves goes in
        let y = p.0 in
        let z = (mains_step image tape σ).slot in
        let n = slot_count image in
        let s = insides σ y p.1 in
        let a = way_list (ways_out y).0 in
        let b = way_list (ways_out y).1 in
        let found : In (node_of z) (a ++ b) =
        ⊎_elim (λ (e : (ways_out y).0 ≡ Some z). in_left (node_of z) a b (rw e (listed z n (rw e at s.0))))
        (λ (e : (ways_out y).1 ≡ Some z). in_right (node_of z) a b (rw e (listed z n (rw e at s.1)))) p.2 in
        let alike : ways_in (Some y) ≡ ways_at image (node_of σ.slot) = ap ways_in (sym p.1 ∙ fetch_is) ∙ sym ways_are in
        rw alike at found

    step_obeys : StepObeys (round_of d image tape) σ
    step_obeys =
        record {
          moves = moves;
          saves = save_is;
          tells = (stepped image tape σ).tells live;
          goes = λ saves. ap ended ((stepped image tape σ).saves live saves).1 ∙ live;
          spends = λ κ goes.
              let a = amount_is κ ∙ ap (λ e. amount_for d (effect_in (role_of x) e (work_of x σ)) (pending κ σ)) goes in
              let b = going d bounded (role_of x) (work_of x σ) (pending κ σ) _ spent in
              let c = price_is in
              omega arith;
          completes = λ κ z.
              let a = amount_is κ in
              let b = completing d bounded (role_of x) (ended (mains_step image tape σ)) (work_of x σ) (pending κ σ) _ (ap ending (sym role_is) ∙ z) spent in
              let c = price_is in
              omega arith;
          ends = λ κ.
              let a = amount_is κ in
              let b = stopping d bounded (role_of x) (ended (mains_step image tape σ)) (work_of x σ) (pending κ σ) _ spent in
              let c = price_is in
              omega arith;
        }

pub round_obeys : RoundObeys
round_obeys d bounded image tape lawful =
    record {
      placeable = lawful_placeable d image lawful;
      first = refl;
      begins = refl;
      steps = λ n k σ s live. step_obeys d image tape lawful bounded σ live (stands d image tape lawful s live);
    }
