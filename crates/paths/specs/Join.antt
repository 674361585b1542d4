-- Joins of values, and the values of complete lists. Assumes nothing.
--     join_over k f l       the values that f gives along a list, joined in its order; the empty value where it has none
--     value k g l           the value of a list of nodes: the empty value, extended by them from its end back
--     Made k f P x          x is joined, in some order, from values f a at which P a holds
--     JoinOf k f P x        x is the join, in any order, of the values f a of all a at which P a holds
--     JoinFrom k g n x      x is the join, in any order, of the values of all complete lists from node n
use Rattle.std.specs.Prelude.{◌≡◌, ℕ, List, [], ◌∷◌}
use Rattle.paths.specs.Kind.{PathKind}
use Rattle.paths.specs.Net.{Net, In, Complete}

abbrev pub join_over : {A V : Type 0} → PathKind V → (A → V) → List A → V
join_over k f [] = k.empty
join_over k f (a ∷ []) = f a
join_over k f (a ∷ b ∷ l) = k.join (f a) (join_over k f (b ∷ l))

abbrev pub value : {V : Type 0} → PathKind V → Net → List ℕ → V
value k g [] = k.empty
value k g (n ∷ l) = k.extend (value k g l) (g.slot n) (g.price n)

pub data Made {A V : Type 0} (k : PathKind V) (f : A → V) (P : A → Type 0) : V → Type 0 where
  one : {a : A} → P a → Made k f P (f a)
  two : {x y : V} → Made k f P x → Made k f P y → Made k f P (k.join x y)

pub record JoinOf {A V : Type 0} (k : PathKind V) (f : A → V) (P : A → Type 0) (x : V) : Type 0 where
  -- nothing else is joined in it,
  pub made : Made k f P x
  -- it leaves none out,
  pub covers : (a : A) → P a → k.join (f a) x ≡ x
  -- and any list of all these joins to it, in whatever order they stand and however often
  pub any_order : (l : List A) → ((a : A) → P a → In a l) → ((a : A) → In a l → P a) → join_over k f l ≡ x

abbrev pub JoinFrom : {V : Type 0} → PathKind V → Net → ℕ → V → Type 0
JoinFrom k g n x = JoinOf k (value k g) (Complete g n) x
