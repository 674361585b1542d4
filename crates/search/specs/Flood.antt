-- A flood: nodes seen, and a queue of them whose ways out are followed in turn. Assumes nothing.
--     seen                  true at each node seen
--     is_seen seen n        n has been seen; no node past the end has
--     Queued seen queue     a queue holds the nodes seen, each once
--     Added seen seen' queue queue' way    a node, or none, was seen and queued
use Rattle.std.specs.Prelude.{◌≡◌, ℕ, ◌<◌, ◌≤◌, Bool, true, false, ◌⊎◌, List, length, Some, count_by, Option, slice_index, slice_index_or}
use Rattle.paths.specs.Net.{Listed}

abbrev pub is_seen : List Bool → ℕ → Type 0
is_seen seen n = slice_index_or seen n false ≡ true

pub record Queued (seen : List Bool) (queue : List ℕ) : Type 0 where
  pub sized : length seen ≡ 1024
  pub filled : length queue ≡ count_by (λ b. b) seen
  pub listed : (p : ℕ) → p < length queue → is_seen seen (slice_index queue p)
  pub found : (n : ℕ) → is_seen seen n → Listed queue (length queue) n

pub record Added (seen seen' : List Bool) (queue queue' : List ℕ) (way : Option ℕ) : Type 0 where
  pub queued : Queued seen' queue'
  pub still : (n : ℕ) → is_seen seen n → is_seen seen' n
  pub new : (n : ℕ) → is_seen seen' n → is_seen seen n ⊎ (way ≡ Some n)
  pub there : (t : ℕ) → way ≡ Some t → is_seen seen' t
  pub longer : length queue ≤ length queue'
  pub kept : (p : ℕ) → p < length queue → slice_index queue' p ≡ slice_index queue p
