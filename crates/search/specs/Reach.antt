-- What the successors of a net lead to. Assumes nothing.
--     Reaches g n m         zero or more steps, each to a successor, lead from node n to node m
--     Leads g n t           one or more steps lead from n to t
--     OnLoop g n            n lies on a loop: one or more steps lead from it back to it
--     starts                true at each node to start from; a node past its end is no start
--     Reached g starts n    some start reaches n
--     Looped g starts n     some start reaches n, and n lies on a loop
--     Tells table P         a table has true at the nodes below 1,024 of which P holds, and at no others
use Rattle.std.specs.Prelude.{◌≡◌, ℕ, ◌<◌, Bool, true, false, ◌↔◌, List, slice_index_or}
use Rattle.paths.specs.Net.{Net, In}

pub data Reaches (g : Net) (n : ℕ) : ℕ → Type 0 where
  itself : Reaches g n n
  onward : {m t : ℕ} → Reaches g n m → In t (g.ways m) → Reaches g n t

pub record Leads (g : Net) (n t : ℕ) : Type 0 where
  -- the last node before t
  pub before : ℕ
  pub reaches : Reaches g n before
  pub last : In t (g.ways before)

abbrev pub OnLoop : Net → ℕ → Type 0
OnLoop g n = Leads g n n

pub record Reached (g : Net) (starts : List Bool) (n : ℕ) : Type 0 where
  pub start : ℕ
  pub chosen : slice_index_or starts start false ≡ true
  pub reaches : Reaches g start n

pub record Looped (g : Net) (starts : List Bool) (n : ℕ) : Type 0 where
  pub reached : Reached g starts n
  pub on_loop : OnLoop g n

abbrev pub Tells : List Bool → (ℕ → Type 0) → Type 0
Tells table P = (n : ℕ) → n < 1024 → (slice_index_or table n false ≡ true) ↔ P n
