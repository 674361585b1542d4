-- The kind of path value that is a price with its slot, the one last extended by. Assumes nothing.
--     leads x y              x is the dearer, or has the same price and a slot no greater
--     worth_kind             the kind: joined by the greater price, and then by the smaller slot
use Rattle.std.specs.Prelude.{Bool, if◌then◌else◌, ◌&&◌, ◌||◌, ◌==◌, nat_le, nat_lt}
use Rattle.paths.specs.declared.worth.Worth.{Worth}
use Rattle.paths.specs.Kind.{PathKind}
use Rattle.paths.specs.Price.{added}

abbrev pub leads : Worth → Worth → Bool
leads x y = nat_lt y.price x.price || (x.price == y.price && nat_le x.slot y.slot)

abbrev pub worth_kind : PathKind Worth
worth_kind =
    record {
      empty = record { price = 0; slot = 0 };
      join = λ x y. if leads x y then x else y;
      extend = λ x s p. record { price = added x.price p; slot = s };
    }
