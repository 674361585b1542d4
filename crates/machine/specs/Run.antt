-- The mains run of an image over a tape: the step iterated from the beginning. Assumes nothing.
--     mains image tape           the run as a process
--     run_of image tape n        where at most n steps lead, stopping at the ending, and how many they were
--     Reached image tape n r     the same said without computing it: r.steps steps of the run lead to r.state, n of them or,
--                                where the run has ended, fewer
use Rattle.std.specs.Prelude.{◌≡◌, ℕ, zero, suc, ◌+◌, ◌<◌, ◌≤◌, true, if◌then◌else◌, List}
use Rattle.machine.specs.declared.state.State.{State}
use Rattle.machine.specs.declared.run.Run.{Run}
use Rattle.machine.specs.Process.{Process, Steps}
use Rattle.machine.specs.State.{initial, ended}
use Rattle.machine.specs.Step.{saves_at, mains_step}

abbrev pub mains : List ℕ → List ℕ → Process State
mains image tape = record {
  start = initial;
  step = λ σ. mains_step image tape σ;
  ended = λ σ. ended σ;
  saves = λ σ. saves_at image σ;
}

abbrev pub onward : List ℕ → List ℕ → Run → Run
onward image tape r =
    if ended r.state then r else record { state = mains_step image tape r.state; steps = r.steps + 1 }

abbrev pub run_of : List ℕ → List ℕ → ℕ → Run
run_of image tape zero = record { state = initial; steps = 0 }
run_of image tape (suc n) = onward image tape (run_of image tape n)

pub record Reached (image tape : List ℕ) (n : ℕ) (r : Run) : Type 0 where
  pub led : (k : ℕ) × Steps (mains image tape) r.steps k r.state
  pub within : r.steps ≤ n
  pub stopped : r.steps < n → ended r.state ≡ true
