-- What the ways out of a sound graph say of a walk that goes on.
use Rattle.std.proofs.Common.{◌≡◌, ℕ, suc, ◌+◌, true, false, List, [], ◌∷◌, ◌++◌, refl, ap, subst, ⊎_elim, arith}
use Rattle.isa.specs.declared.instruction.Role.{Role}
use Rattle.isa.specs.declared.instruction.Role.TheVariants.{Save, Idle, Exit, Other}
use Rattle.paths.specs.Net.{In}
use Rattle.walks.specs.Certified.{is_save}
use Rattle.walks.specs.Graph.{Graph, ending, onward, Sound}
use Rattle.walks.specs.Walk.{Chain, Ends, walk_price}
use Rattle.walks.proofs.Steps.{Steps as Along}

pub save_role : (r : Role) → is_save r ≡ true → r ≡ Save
save_role Save e = refl
save_role Idle e = absurd cc
save_role Exit e = absurd cc
save_role Other e = absurd cc

module _ (g : Graph) where
  pub along_chain : (l : List ℕ) (n t : ℕ) → Along (onward g) n l t → Chain g n l
  along_chain [] n t e = tt
  along_chain (u ∷ l) n t p = (p.0, along_chain l u t p.1)

  -- a walk ends where its last node does
  pub ends_at : (l : List ℕ) (n t : ℕ) → Along (onward g) n l t → Ends g n l → ending (g.role t) ≡ true
  ends_at [] n t e h = subst (λ (i : ℕ). ending (g.role i) ≡ true) e h
  ends_at (u ∷ l) n t p h = ends_at l u t p.1 h

  pub price_on : (l : List ℕ) (n t : ℕ) → walk_price g (n ∷ (l ++ t ∷ [])) ≡ walk_price g (n ∷ l) + g.price t
  price_on [] n t = omega arith
  price_on (u ∷ l) n t = let h = price_on l u t in omega arith

  module _ (sound : Sound g) where
    -- where there is a way out, and no save, a walk goes on
    pub goes_on : (n t : ℕ) → is_save (g.role n) ≡ false → In t (g.ways n) → ending (g.role n) ≡ false
    goes_on n t e i = go (g.role n) refl
      where
        go : (r : Role) → g.role n ≡ r → ending r ≡ false
        go Save q = absurd (let z = ap is_save q in cc)
        go Idle q = refl
        go Exit q = absurd (let h : In t [] = subst (λ (l : List ℕ). In t l) (sound.exits n q) i in h)
        go Other q = refl

    pub after_save : (n t : ℕ) → g.role n ≡ Save → In t (g.ways n) → t ≡ suc n
    after_save n t e i =
        let h : In t (suc n ∷ []) = subst (λ (l : List ℕ). In t l) (sound.saves n e) i in
        ⊎_elim (λ (q : t ≡ suc n). q) absurd h
