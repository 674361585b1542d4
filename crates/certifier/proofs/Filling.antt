-- The list that is filled along an order of a graph holds its worths.
use Rattle.std.proofs.Common.{◌≡◌, ℕ, true, false, List, length, sym, ◌∙◌, ⊎_elim, true≢false, arith}
use Rattle.std.proofs.lemmas.Bool.{cases_Bool, cond-false}
use Rattle.paths.specs.Kind.{PathKind, Laws}
use Rattle.paths.specs.Net.{Listed}
use Rattle.paths.specs.Fill.{Untouched, Worths}
use Rattle.walks.specs.Graph.{Graph, net_of, Sound}
use Rattle.walks.specs.Walk.{Reachable}
use Rattle.walks.specs.Reached.{reached}
use Rattle.walks.specs.Order.{OrderFor}
use Rattle.walks.proofs.Walking.{reach_below, reached_is, reached_yes}
use Rattle.walks.proofs.Ordering.{filled_worth}
use Rattle.certifier.specs.Clear.{Cleared}
use Rattle.certifier.specs.Judge.{WorthsLeft}

module _ {V : Type 0} (k : PathKind V) (laws : Laws k) (g : Graph) (sound : Sound g) (order : List ℕ) (for : OrderFor g order)
    (only : (n : ℕ) → Listed order (length order) n → Reachable g n) where
  pub worths_left : (old cleared new : List V) → length new ≡ length old → Cleared k g.size old cleared
      → Untouched order cleared new k.empty → Worths k (net_of g) order new → WorthsLeft k g old new
  worths_left old cleared new size clear untouched worths =
      record {
        size = size;
        within = λ n h. ⊎_elim
            (λ (t : reached g n ≡ true). filled_worth g order for sound k laws new worths n (reached_is g sound n t))
            (λ (f : reached g n ≡ false).
            untouched n (λ l. true≢false (sym (reached_yes g sound n (only n l)) ∙ f))
            ∙ clear.below n h ∙ sym (cond-false _ _ _ f))
            (cases_Bool (reached g n));
        past = λ n h. untouched n (λ l. let b = reach_below g sound n (only n l) in omega arith) ∙ clear.beyond n h;
      }
