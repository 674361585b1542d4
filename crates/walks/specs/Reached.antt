-- Which nodes are reachable, as a test that computes. Assumes nothing.
--     any f l             some element of a list passes the test f
--     near step t k n     at most k steps lead from n to t
--     reached g n         node n of a sound graph is reachable
use Rattle.std.specs.Prelude.{ℕ, zero, suc, Bool, false, ◌||◌, List, [], ◌∷◌, ◌==◌}
use Rattle.walks.specs.Graph.{Graph}

abbrev pub any : (ℕ → Bool) → List ℕ → Bool
any f [] = false
any f (x ∷ l) = let rest = any f l in f x || rest

abbrev pub near : (ℕ → List ℕ) → ℕ → ℕ → ℕ → Bool
near step t zero n = n == t
near step t (suc k) n = let far = any (near step t k) (step n) in (n == t) || far

-- more steps than there are nodes lead nowhere else
abbrev pub reached : Graph → ℕ → Bool
reached g n = near g.ways n g.size 0
