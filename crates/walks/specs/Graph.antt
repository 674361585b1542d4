-- The graph that walks go along. Assumes nothing.
--     g.size         how many nodes it has: the numbers below
--     g.role n       what a node is to a round: a save, an idle slot, EXIT, or any other
--     g.ways n       its ways out
--     g.price n      its price
--     g.slot n       the slot that it stands at
--     ending r       whether a walk ends at a node of role r: a save or EXIT
--     onward g n     the nodes that a walk may go on to from n
--     net_of g       the net of the path values of a graph: onward nodes, prices, slots
--     Sound g        what the graph of a lawful image keeps
--     Small g c      no node costs more than c, and that for each node of the graph stays below 2^64
use Rattle.std.specs.Prelude.{◌≡◌, ℕ, suc, ◌*◌, ◌^◌, ◌<◌, ◌≤◌, Bool, true, false, cond, List, [], ◌∷◌}
use Rattle.isa.specs.declared.instruction.Role.{Role}
use Rattle.isa.specs.declared.instruction.Role.TheVariants.{Save, Idle, Exit, Other}
use Rattle.paths.specs.Net.{Net, In}

pub record Graph : Type 0 where
  pub size : ℕ
  pub role : ℕ → Role
  pub ways : ℕ → List ℕ
  pub price : ℕ → ℕ
  pub slot : ℕ → ℕ

abbrev pub ending : Role → Bool
ending Save = true
ending Exit = true
ending Idle = false
ending Other = false

module _ (g : Graph) where
  abbrev pub onward : ℕ → List ℕ
  onward n = cond (ending (g.role n)) [] (g.ways n)

  abbrev pub net_of : Net
  net_of = record { ways = onward; price = g.price; slot = g.slot }

  pub record Sound : Type 0 where
    -- it has a node, and its ways out stay inside
    pub some : 0 < g.size
    pub inside : (n t : ℕ) → n < g.size → In t (g.ways n) → t < g.size
    -- a save leads to the next node, EXIT nowhere, and any other node somewhere
    pub saves : (n : ℕ) → g.role n ≡ Save → g.ways n ≡ suc n ∷ []
    pub exits : (n : ℕ) → g.role n ≡ Exit → g.ways n ≡ []
    pub others : (n : ℕ) → n < g.size → ending (g.role n) ≡ false → (t : ℕ) × In t (g.ways n)

  pub record Small (c : ℕ) : Type 0 where
    pub each : (n : ℕ) → g.price n ≤ c
    pub all : g.size * c < 2 ^ 64
