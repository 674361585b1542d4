-- What whoever watches a rehearsal is told. Assumes nothing.
--     tells w n r w'             telling w that n calls were made, and that the last one answered r, leaves w'
--     Told tells w n rs w'       w was told of 1, 2 and so on up to n, in turn and of nothing else, each with its reply, which left w';
--                                the replies are rs
use Rattle.std.specs.Prelude.{ℕ, ◌+◌, List, [], ◌∷◌, ◌++◌}
use Rattle.claims.specs.declared.reply.Reply.{Reply}

pub data Told {W : Type 0} (tells : W → ℕ → Reply → W → Type 0) (w : W) : ℕ → List Reply → W → Type 0 where
  nothing : Told tells w 0 [] w
  more : {n : ℕ} {rs : List Reply} {r : Reply} {v u : W} → Told tells w n rs v → tells v (n + 1) r u → Told tells w (n + 1) (rs ++ r ∷ []) u
