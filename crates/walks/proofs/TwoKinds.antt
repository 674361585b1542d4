-- The prices of the two kinds of path value are plain sums while these stay small.
use Rattle.std.proofs.Common.{◌≡◌, ℕ, zero, suc, ◌-◌, ◌*◌, ◌^◌, ◌≤◌, min, true, false, List, [], ◌∷◌, length, sym, refl, ⊎_elim, arith}
use Rattle.std.proofs.lemmas.Bool.{cond-true, cond-false, cases_Bool}
use Rattle.std.proofs.lemmas.Bool.Decides.{nat_tests}
use Rattle.paths.specs.declared.price.Price.{Price}
use Rattle.paths.specs.declared.worth.Worth.{Worth}
use Rattle.paths.specs.Kind.{PathKind, Laws}
use Rattle.paths.specs.Net.{Complete}
use Rattle.paths.specs.Join.{value, JoinFrom}
use Rattle.paths.specs.Price.{price_kind, Saturates}
use Rattle.paths.specs.Worth.{worth_kind}
use Rattle.paths.proofs.Joining.{join_node, same_join}
use Rattle.paths.proofs.KindLaws.{price_laws, worth_laws}
use Rattle.walks.specs.Graph.{Graph, net_of, Sound, Small}
use Rattle.walks.specs.Walk.{Reachable, next, walk_price}
use Rattle.walks.specs.Acceptance.{Unlooped}
use Rattle.walks.specs.Reached.{reached}
use Rattle.walks.specs.Worth.{worth_within, worth_of, WorthsIn, CompleteRight, WorthRight}
use Rattle.walks.proofs.Walking.{onward_way, reach_below, reached_yes, reached_is, chain_short}
use Rattle.walks.proofs.Worths.{worth_joined, joined_dearest, list_complete, complete_list}

module _ {V : Type 0} (k : PathKind V) (laws : Laws k) (price : V → ℕ) (saturates : Saturates k price) (g : Graph) where
  value_price : (w : List ℕ) → price (value k (net_of g) w) ≡ min (walk_price g w) (2 ^ 64 - 1)
  value_price [] = let e = saturates.at_empty in omega arith
  value_price (n ∷ w) =
      let h = value_price w in let e = saturates.at_extend (value k (net_of g) w) (g.slot n) (g.price n) in omega arith

  module _ (c : ℕ) (small : Small g c) where
    price_within : (w : List ℕ) (m : ℕ) → length w ≤ m → walk_price g w ≤ m * c
    price_within [] m h = omega arith
    price_within (n ∷ w) zero h = absurd (let z : suc (length w) ≤ 0 = h in omega arith)
    price_within (n ∷ w) (suc m) h = let a = small.each n in let b = price_within w m (omega arith) in omega arith

  module _ (sound : Sound g) (unlooped : Unlooped g) where
    worth_is : (n : ℕ) → Reachable g n → worth_within k g g.size n ≡ worth_of k g n
    worth_is n r = sym (cond-true _ _ _ (reached_yes g sound n r))

    worth_join : (n : ℕ) → Reachable g n → JoinFrom k (net_of g) n (worth_of k g n)
    worth_join n r = rw (← worth_is n r) (worth_joined k laws g sound unlooped n r)

    pub worths_in : WorthsIn k price g (worth_of k g)
    worths_in =
        record {
          extended = λ n r.
              same_join k laws (value k (net_of g)) (Complete (net_of g) n) _ _ (worth_join n r)
              (join_node k laws (net_of g) n (worth_of k g) (λ t i. worth_join t (next r (onward_way g n t i))));
          rest = λ n out.
              ⊎_elim (λ (t : reached g n ≡ true). absurd (out (reached_is g sound n t))) (λ (f : reached g n ≡ false). cond-false _ _ _ f)
              (cases_Bool (reached g n));
          joined = worth_join;
          dearest = λ c small n r.
              rw (← worth_is n r)
              (joined_dearest g sound k price saturates.at_join n (worth_within k g g.size n) (reach_below g sound n r)
              (worth_joined k laws g sound unlooped n r)
              (λ l d.
              let e = value_price (n ∷ l) in
              let b = price_within c small (n ∷ l) g.size (chain_short g sound unlooped n l r d.0) in
              let s = small.all in
              omega arith));
        }

price_saturates : Saturates price_kind (λ (x : Price). x.price)
price_saturates = record { at_empty = refl; at_join = λ x y. refl; at_extend = λ x s p. refl }

worth_saturates : Saturates worth_kind (λ (x : Worth). x.price)
worth_saturates = record { at_empty = refl; at_join = λ x y. grind (arith, nat_tests); at_extend = λ x s p. refl }

pub worth_right : WorthRight
worth_right g sound unlooped =
    record {
      prices = worths_in price_kind price_laws (λ (x : Price). x.price) price_saturates g sound unlooped;
      worths = worths_in worth_kind worth_laws (λ (x : Worth). x.price) worth_saturates g sound unlooped;
    }

pub complete_right : CompleteRight
complete_right g sound n w h =
    (λ c. complete_list g sound w n h c, λ (q : _). rw q.1 (list_complete g q.0 n q.2))
