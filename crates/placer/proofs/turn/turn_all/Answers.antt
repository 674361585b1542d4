use Rattle.std.proofs.Common.{◌≡◌, refl, rules, false, arith}
use Rattle.paths.specs.Net.{no_node, node_at}
use Rattle.tables.proofs.Tabling.{made_at}
use Rattle.tables.proofs.Describing.{starts_told, reached_told}
use Rattle.placer.specs.Turned.{marked, turned_node, turned_start}
use Rattle.placer.proofs.Turning.{idle_inside, all_turned}
use Rattle.placer.proofs.turn.turn_all.Goals as goal

pub invariant_of-result : goal.invariant_of-result
invariant_of-result c = record { inside = idle_inside c.args.image.now c.requires.lawful c.idle_slots-idle.result c.idle_slots-idle.ensures }

pub returns-clause-turns : goal.returns-clause-turns
returns-clause-turns c m =
    let lawful = c.requires.lawful in
    let chart = c.args.chart.now in
    let image = c.args.image.now in
    let idle = c.idle_slots-idle.result in
    all_turned image lawful idle c.idle_slots-idle.ensures m chart.starts chart.reached
    (starts_told m image lawful chart.starts c.requires.starts) (reached_told m image lawful chart.reached c.requires.reached)
    c.args.saving chart.nodes _ refl
    (search rules) (search rules)
    (λ n h. made_at _ (λ i y. y ≡ turned_node (marked idle i) c.args.saving (node_at chart.nodes i))
    (λ p. (p.0.now ≡ chart.nodes) × (p.1.now ≡ idle) × (p.2.now ≡ c.args.saving))
    (λ p q i y same called. let met = called.met in search rules)
    c.from_fn.result 1024 0 _ (refl, refl, refl) c.from_fn.ensures.items.each n no_node (omega arith) h)
    (λ n h. made_at _ (λ i y. y ≡ turned_start chart.starts idle chart.reached i)
    (λ p. (p.0.now ≡ chart.starts) × (p.1.now ≡ idle) × (p.2.now ≡ chart.reached))
    (λ p q i y same called. let met = called.met in search rules)
    c.from_fn-2.result 1024 0 _ (refl, refl, refl) c.from_fn-2.ensures.items.each n false (omega arith) h)
