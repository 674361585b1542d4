-- Which idle nodes become saves. Assumes nothing.
--     P, Q                                 sets of nodes
--     Within P Q                           every node of P is one of Q
--     without n P                          P but for n
--     idles g                              the idle nodes of a graph
--     turned saving g P                    the graph with the idle nodes of P turned into saves, at the price of a saving
--     allowed saving g budget P            the graph turned at P is accepted
--     dropped ok k n P                     P after each of k nodes from n upward was left out in turn, where the test ok passed without it
--     placed saving g budget               the nodes left turned: all idle nodes, dropped upward while the graph stays accepted
--     Placement                            what placing answers: the nodes left turned, or the answer that refuses
--     placement saving g budget            the placement: refused where the graph with every idle node turned is not accepted
--     tried I n P                          P below n, n left out, and above n the nodes of I: what stands when n is tried
--     Tight saving g budget P              what the nodes left turned are
--     Hopeless saving g budget a           what a refusal means
--     RightPlacement saving g budget p     a placement is tight, or refuses what is hopeless
--     Placeable saving g                   a sound graph whose idle nodes lead to the next node, and whose endings cost a saving at least
--     PlacementRight                       the placement of a placeable graph is right
--     LawfulPlaceable                      the graph of a lawful image is placeable
use Rattle.std.specs.Prelude.{◌≡◌, ℕ, zero, suc, ◌<◌, ◌≤◌, Bool, true, false, cond, not, ◌&&◌, ◌↔◌, List, [], ◌∷◌, ◌==◌, nat_lt}
use Rattle.isa.specs.declared.instruction.Role.{Role}
use Rattle.isa.specs.declared.instruction.Role.TheVariants.{Save, Idle, Exit, Other}
use Rattle.isa.specs.Lawful.{Lawful}
use Rattle.pricing.specs.Model.{Model}
use Rattle.walks.specs.Graph.{Graph, ending, Sound}
use Rattle.walks.specs.Acceptance.{Accepted, Answer, accepted, loop, over, Means}
use Rattle.walks.specs.ImageGraph.{graph_of}
use Rattle.walks.specs.Certified.{certified}

abbrev pub Within : (ℕ → Bool) → (ℕ → Bool) → Type 0
Within P Q = (n : ℕ) → P n ≡ true → Q n ≡ true

abbrev pub without : ℕ → (ℕ → Bool) → ℕ → Bool
without n P m = not (m == n) && P m

abbrev pub is_idle : Role → Bool
is_idle Idle = true
is_idle Save = false
is_idle Exit = false
is_idle Other = false

abbrev pub idles : Graph → ℕ → Bool
idles g n = is_idle (g.role n)

abbrev pub turned : ℕ → Graph → (ℕ → Bool) → Graph
turned saving g P =
    record {
      size = g.size;
      role = λ n. cond (idles g n && P n) Save (g.role n);
      ways = g.ways;
      price = λ n. cond (idles g n && P n) saving (g.price n);
      slot = g.slot;
    }

abbrev pub is_accepted : Answer → Bool
is_accepted accepted = true
is_accepted (loop n) = false
is_accepted (over n p) = false

abbrev pub dropped : ((ℕ → Bool) → Bool) → ℕ → ℕ → (ℕ → Bool) → ℕ → Bool
dropped ok zero n P = P
dropped ok (suc k) n P = let passes = ok (without n P) in dropped ok k (suc n) (cond (P n && passes) (without n P) P)

abbrev pub tried : (ℕ → Bool) → ℕ → (ℕ → Bool) → ℕ → Bool
tried I n P m = cond (nat_lt m n) (P m) (without n I m)

pub data Placement : Type 0 where
  left : (ℕ → Bool) → Placement
  refused : Answer → Placement

module _ (saving : ℕ) (g : Graph) (budget : ℕ) where
  abbrev pub allowed : (ℕ → Bool) → Bool
  allowed P = is_accepted (certified (turned saving g P) budget)

  abbrev pub placed : ℕ → Bool
  placed = dropped allowed g.size 0 (idles g)

  abbrev pub placement_by : Answer → Placement
  placement_by accepted = left placed
  placement_by (loop n) = refused (loop n)
  placement_by (over n p) = refused (over n p)

  abbrev pub placement : Placement
  placement = placement_by (certified (turned saving g (idles g)) budget)

  pub record Tight (P : ℕ → Bool) : Type 0 where
    -- they are idle nodes, and with them turned the graph is accepted,
    pub idle : Within P (idles g)
    pub fits : Accepted (turned saving g P) budget
    -- but not without any single one of them;
    pub needed : (n : ℕ) → n < g.size → P n ≡ true → Accepted (turned saving g (without n P)) budget → ⊥
    -- and an idle node is among them exactly when it could not be left out in its turn, upward
    pub upward : (n : ℕ) → n < g.size → idles g n ≡ true
        → (P n ≡ true) ↔ (Accepted (turned saving g (tried (idles g) n P)) budget → ⊥)

  pub record Hopeless (a : Answer) : Type 0 where
    -- the refusal says what is so with every idle node turned, and no choice of idle nodes is accepted
    pub means : Means (turned saving g (idles g)) budget a
    pub none : (P : ℕ → Bool) → Within P (idles g) → Accepted (turned saving g P) budget → ⊥

  abbrev pub RightPlacement : Placement → Type 0
  RightPlacement (left P) = Tight P
  RightPlacement (refused a) = Hopeless a

pub record Placeable (saving : ℕ) (g : Graph) : Type 0 where
  pub sound : Sound g
  pub idled : (n : ℕ) → g.role n ≡ Idle → g.ways n ≡ suc n ∷ []
  pub endings : (n : ℕ) → ending (g.role n) ≡ true → saving ≤ g.price n

abbrev pub PlacementRight : Type 0
PlacementRight = (saving : ℕ) (g : Graph) → Placeable saving g → (budget : ℕ) → RightPlacement saving g budget (placement saving g budget)

abbrev pub LawfulPlaceable : Type 0
LawfulPlaceable = (m : Model) (image : List ℕ) → Lawful image → Placeable m.dearest (graph_of m image)
