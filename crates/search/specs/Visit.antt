-- A depth-first search, visit by visit. Assumes nothing.
--     mark_at marks n       the mark of a node; New past the end
--     news marks            how many nodes are New
--     opens marks           how many nodes are Open
--     dones marks           how many nodes are Done
--     Sound g marks order   an order so far: After, Once, and its nodes are those that are Done
--     Path g marks path     a path so far: its nodes are those that are Open, each a successor of the one before
--     Rests g marks path order         between two visits: no node is Open
--     Marked marks way r    what a way out, or none, comes to: a New node, none that is New, or an Open one
--     NextWay g marks n r   the first way out of n that comes to a New node; none where all are Done; or a way to an Open one
--     Visited g marks marks' path' order' n        what holds after a visit of n: it is Done, and the nodes that have
--                           become Done are nodes that it reaches
--     LoopAhead g n         n reaches a node on a loop
use Rattle.std.specs.Prelude.{◌≡◌, ℕ, ◌+◌, ◌<◌, Bool, true, false, ◌⊎◌, List, [], length, Some, None, Ok, Err, Result, count_by, Option, slice_index, slice_index_or}
use Rattle.paths.specs.Net.{Net, In, Listed}
use Rattle.search.specs.declared.order.Looping.{Looping}
use Rattle.search.specs.declared.order.Mark.{Mark}
use Rattle.search.specs.declared.order.Mark.TheVariants.{New, Open, Done}
use Rattle.search.specs.Reach.{Reaches, OnLoop}
use Rattle.search.specs.Order.{After, Once}

abbrev pub mark_at : List Mark → ℕ → Mark
mark_at marks n = slice_index_or marks n New

abbrev pub is_new : Mark → Bool
is_new New = true
is_new Open = false
is_new Done = false

abbrev pub is_open : Mark → Bool
is_open New = false
is_open Open = true
is_open Done = false

abbrev pub is_done : Mark → Bool
is_done New = false
is_done Open = false
is_done Done = true

abbrev pub news : List Mark → ℕ
news marks = count_by is_new marks

abbrev pub opens : List Mark → ℕ
opens marks = count_by is_open marks

abbrev pub dones : List Mark → ℕ
dones marks = count_by is_done marks

pub record Sound (g : Net) (marks : List Mark) (order : List ℕ) : Type 0 where
  pub sized : length marks ≡ 1024
  pub filled : length order ≡ dones marks
  pub after : After g order
  pub once : Once order
  pub listed : (p : ℕ) → p < length order → mark_at marks (slice_index order p) ≡ Done
  pub found : (n : ℕ) → mark_at marks n ≡ Done → Listed order (length order) n

pub record Path (g : Net) (marks : List Mark) (path : List ℕ) : Type 0 where
  pub filled : length path ≡ opens marks
  pub once : Once path
  pub steps : (p : ℕ) → p + 1 < length path → In (slice_index path (p + 1)) (g.ways (slice_index path p))
  pub listed : (p : ℕ) → p < length path → mark_at marks (slice_index path p) ≡ Open
  pub found : (n : ℕ) → mark_at marks n ≡ Open → Listed path (length path) n

pub record Rests (g : Net) (marks : List Mark) (path order : List ℕ) : Type 0 where
  pub sound : Sound g marks order
  pub none_open : (n : ℕ) → mark_at marks n ≡ Open → ⊥
  pub empty : path ≡ []

abbrev pub Marked : List Mark → Option ℕ → Result (Option ℕ) Looping → Type 0
Marked marks way (Ok (Some t)) = (way ≡ Some t) × (mark_at marks t ≡ New)
Marked marks way (Ok None) = (t : ℕ) → way ≡ Some t → mark_at marks t ≡ Done
Marked marks way (Err _) = (t : ℕ) × (way ≡ Some t) × (mark_at marks t ≡ Open)

abbrev pub NextWay : Net → List Mark → ℕ → Result (Option ℕ) Looping → Type 0
NextWay g marks n (Ok (Some t)) = In t (g.ways n) × (t < 1024) × (mark_at marks t ≡ New)
NextWay g marks n (Ok None) = (t : ℕ) → In t (g.ways n) → t < 1024 → mark_at marks t ≡ Done
NextWay g marks n (Err _) = (t : ℕ) × In t (g.ways n) × (mark_at marks t ≡ Open)

pub record Visited (g : Net) (marks marks' : List Mark) (path' order' : List ℕ) (n : ℕ) : Type 0 where
  pub rests : Rests g marks' path' order'
  pub done : mark_at marks' n ≡ Done
  pub still_done : (m : ℕ) → mark_at marks m ≡ Done → mark_at marks' m ≡ Done
  pub from : (m : ℕ) → mark_at marks' m ≡ Done → (mark_at marks m ≡ Done) ⊎ Reaches g n m

pub record LoopAhead (g : Net) (n : ℕ) : Type 0 where
  pub node : ℕ
  pub reaches : Reaches g n node
  pub on_loop : OnLoop g node
