-- Steps of a net, put together and taken apart.
use Rattle.std.proofs.Common.{◌≡◌, ℕ, ◌<◌, ◌≤◌, Bool, List, length, Some, None, Option, subst, ⊎_elim, arith}
use Rattle.std.specs.Option.{MatchOption}
use Rattle.std.proofs.lemmas.List.{get_or_past}
use Rattle.std.proofs.lemmas.Bool.{cases_lt}
use Rattle.paths.specs.declared.node.Node.{Node}
use Rattle.paths.specs.declared.node.Successors.TheVariants.{End}
use Rattle.paths.specs.Net.{Net, In, ways_of, tabled}
use Rattle.search.specs.Reach.{Reaches, itself, onward, Leads, OnLoop, Looped}
use Rattle.search.specs.Loops.{Lowest}

module _ (g : Net) where
  pub step_first : (n t u : ℕ) → In t (g.ways n) → Reaches g t u → Reaches g n u
  step_first n t u s itself = onward itself s
  step_first n t u s (onward {m} r k) = onward (step_first n t m s r) k

  pub leads_on : (n t u : ℕ) → Leads g n t → In u (g.ways t) → Leads g n u
  leads_on n t u l s = record { before = t; reaches = onward l.reaches l.last; last = s }

-- past a table, nodes have no successors
pub ways_below : (nodes : List Node) (n t : ℕ) → In t ((tabled nodes).ways n) → n < length nodes
ways_below nodes n t s =
    ⊎_elim
    (λ (h : n < length nodes). h)
    (λ (h : length nodes ≤ n).
    let e = get_or_past nodes n (record { slot = 0; price = 0; successors = End }) h in
    absurd (subst (λ (x : Node). In t (ways_of x.successors)) e s))
    (cases_lt n (length nodes))

-- so what reaches a node of the table is in it
pub reaches_below : (nodes : List Node) (n t : ℕ) → Reaches (tabled nodes) n t → t < length nodes → n < length nodes
reaches_below nodes n t itself h = h
reaches_below nodes n t (onward {m} r s) h = reaches_below nodes n m r (ways_below nodes m t s)

pub loop_below : (nodes : List Node) (n : ℕ) → OnLoop (tabled nodes) n → n < length nodes
loop_below nodes n l = reaches_below nodes n l.before l.reaches (ways_below nodes l.before n l.last)

-- the first number below 1,024 that is on a loop is the lowest of all
pub lowest : (nodes : List Node) (starts : List Bool) → length nodes ≡ 1024 → (r : Option ℕ)
    → MatchOption r ((k : ℕ) → 0 ≤ k → k < 1024 → k < 1024 → Looped (tabled nodes) starts k → ⊥)
    (λ i. (0 ≤ i) × (i < 1024) × (i < 1024 → Looped (tabled nodes) starts i)
    × ((k : ℕ) → 0 ≤ k → k < i → k < 1024 → Looped (tabled nodes) starts k → ⊥))
    → Lowest (tabled nodes) starts r
lowest nodes starts size None found =
    λ n l. let lt : n < 1024 = omega (arith, loop_below nodes n l.on_loop) in found n (omega arith) lt lt l
lowest nodes starts size (Some i) found = record {
  holds = found.2 found.1;
  below = λ k h. let lt : k < 1024 = omega (arith, found.1) in found.3 k (omega arith) h lt;
}
