-- Memberships, start by start.
use Rattle.std.proofs.Common.{◌≡◌, ℕ, ◌+◌, ◌-◌, ◌^◌, ◌<◌, ◌≤◌, min, Bool, true, false, ◌↔◌, if◌then◌else◌, List, Option, Some, None, MatchOption, slice_index_or, sym, ◌∙◌, subst, arith, ⊎_elim}
use Rattle.std.proofs.lemmas.Bool.{cases_lt, cases_Bool, false≢true, cond-true, cond-false}
use Rattle.paths.specs.declared.node.Node.{Node}
use Rattle.search.specs.Loops.{Least}
use Rattle.survey.specs.declared.regions.Membership.{Membership}
use Rattle.paths.specs.Net.{tabled}
use Rattle.search.specs.Reach.{Reaches}
use Rattle.survey.specs.Counted.{Chosen, Counted, Counted.none, Counted.one, Counted.other}
use Rattle.survey.specs.Membership.{Lies, MemberBelow, no_region, first_of, joining}

-- there are no more of them than numbers
pub counted_few : (P : ℕ → Type 0) (n k : ℕ) → Counted P n k → k ≤ n
counted_few P _ _ none = omega arith
counted_few P _ _ (one {n = n} {k = k} p c) = omega (arith, counted_few P n k c)
counted_few P _ _ (other {n = n} {k = k} p c) = omega (arith, counted_few P n k c)

-- a table that tells has true at the next number, and so one more
pub counted_true : (P : ℕ → Type 0) (b : Bool) (n k : ℕ) → (b ≡ true) ↔ P n → b ≡ true → Counted P n k → Counted P (n + 1) (k + 1)
counted_true P b n k tells is_true c = one (tells.0 is_true) c

-- or false, and no more
pub counted_false : (P : ℕ → Type 0) (b : Bool) (n k : ℕ) → (b ≡ true) ↔ P n → b ≡ false → Counted P n k → Counted P (n + 1) k
counted_false P b n k tells is_false c = other (λ p. false≢true (sym is_false ∙ tells.1 p)) c

-- the lowest of the numbers below n that have the property
abbrev LowestBelow : (ℕ → Type 0) → ℕ → Option ℕ → Type 0
LowestBelow P n o = MatchOption o ((s : ℕ) → s < n → P s → ⊥) (λ s. (s < n) × Least P s)

lowest_more : (P : ℕ → Type 0) (n : ℕ) (o : Option ℕ) → P n → LowestBelow P n o → LowestBelow P (n + 1) (first_of o n)
lowest_more P n None p nobody = (omega arith, record { holds = p; below = nobody })
lowest_more P n (Some s) p some = (omega (arith, some.0), some.1)

lowest_same : (P : ℕ → Type 0) (n : ℕ) (o : Option ℕ) → (P n → ⊥) → LowestBelow P n o → LowestBelow P (n + 1) o
lowest_same P n None isnt nobody = λ s low p.
    ⊎_elim
    (λ (below : s < n). nobody s below p)
    (λ (above : n ≤ s). isnt (subst P (omega arith) p))
    (cases_lt s n)
lowest_same P n (Some s) isnt some = (omega (arith, some.0), some.1)

module _ (nodes : List Node) (starts : List Bool) (slot : ℕ) where
  pub member_none : MemberBelow nodes starts slot 0 no_region
  member_none = record { lowest = λ s low p. absurd (omega arith); count = none }

  -- a start more, in whose region the slot lies
  pub member_more : (n : ℕ) (m : Membership) → n < 1024 → Lies nodes starts slot n → MemberBelow nodes starts slot n m → MemberBelow nodes starts slot (n + 1) (joining m n)
  member_more n m few lies below =
      let room : m.count + 1 ≡ min (m.count + 1) (2 ^ 16 - 1) = omega (arith, counted_few (Lies nodes starts slot) n m.count below.count) in
      record {
        lowest = lowest_more (Lies nodes starts slot) n m.lowest lies below.lowest;
        count = subst (Counted (Lies nodes starts slot) (n + 1)) room (one lies below.count);
      }

  -- and one in whose region it does not
  pub member_same : (n : ℕ) (m : Membership) → (Lies nodes starts slot n → ⊥) → MemberBelow nodes starts slot n m → MemberBelow nodes starts slot (n + 1) m
  member_same n m isnt below = record { lowest = lowest_same (Lies nodes starts slot) n m.lowest isnt below.lowest; count = other isnt below.count }

  -- the next start, whose region tells of the slot
  pub member_told : (n : ℕ) (m new : Membership) (b : Bool) → n < 1024 → Chosen starts n → (b ≡ true) ↔ Reaches (tabled nodes) n slot → new ≡ if b then joining m n else m
      → MemberBelow nodes starts slot n m → MemberBelow nodes starts slot (n + 1) new
  member_told n m new b few chosen tells made below =
      ⊎_elim
      (λ (is_true : b ≡ true).
      subst (MemberBelow nodes starts slot (n + 1)) (sym (made ∙ cond-true _ _ _ is_true))
      (member_more n m few (record { chosen = chosen; reached = tells.0 is_true }) below))
      (λ (is_false : b ≡ false).
      subst (MemberBelow nodes starts slot (n + 1)) (sym (made ∙ cond-false _ _ _ is_false))
      (member_same n m (λ lies. false≢true (sym is_false ∙ tells.1 lies.reached)) below))
      (cases_Bool b)

  -- a slot that is no start
  pub member_unchosen : (n : ℕ) (m : Membership) → slice_index_or starts n false ≡ false → MemberBelow nodes starts slot n m → MemberBelow nodes starts slot (n + 1) m
  member_unchosen n m unset below = member_same n m (λ lies. false≢true (sym unset ∙ lies.chosen)) below
