use Rattle.std.proofs.Common.{◌≡◌, false, refl, arith, rules}
use Rattle.tables.proofs.Tabling.{made_at}
use Rattle.placer.specs.Turn.{idles_in}
use Rattle.placer.proofs.turn.idle_slots.Goals as goal

pub returns : goal.returns
returns c =
    let image = c.args.image in
    record {
      size = search rules;
      holds = λ k h. made_at _ (λ i y. y ≡ idles_in image.now i) (λ p. p.0 ≡ image) (λ p q i y same called. let met = called.met in search rules)
          c.from_fn.result 1024 0 _ refl c.from_fn.ensures.items.each k false (omega arith) h;
    }
