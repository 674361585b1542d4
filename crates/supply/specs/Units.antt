-- Whole units of energy above a floor: what is assured is there, and what is taken is no longer assured.
use Rattle.std.specs.Prelude.{◌≡◌, ℕ, ◌+◌, ◌-◌, ◌*◌, ◌/◌, ◌<◌, ◌≤◌}
use Rattle.std.proofs.Common.{le-div_iff_mul-le, arith}
use Rattle.std.proofs.Math.Nat.{add-mul-div_right}

pub there : (n unit energy floor : ℕ) → 0 < unit → floor ≤ energy → n ≤ (energy - floor) / unit → floor + n * unit ≤ energy
there n unit energy floor p l h = let q : n * unit ≤ energy - floor = (le-div_iff_mul-le p).0 h in omega arith

pub fewer : (n unit energy floor : ℕ) → 0 < unit → floor + n * unit ≤ energy
    → (energy - floor) / unit ≡ (energy - n * unit - floor) / unit + n
fewer n unit energy floor p h =
    let x : energy - floor ≡ (energy - n * unit - floor) + n * unit = omega arith in
    rw x (add-mul-div_right (energy - n * unit - floor) n p)
