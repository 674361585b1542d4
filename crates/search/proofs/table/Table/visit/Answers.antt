use Rattle.std.proofs.Common.{Some, None, Ok, rules, arith}
use Rattle.paths.specs.Net.{tabled}
use Rattle.search.specs.Visit.{NextWay}
use Rattle.search.proofs.Marking.{visit_begins, visit_goes_on, visit_loops, visit_leaves, last_inside, open_room, done_room, leaves_less}
use Rattle.search.proofs.table.Table.visit.Goals as goal

pub loop-node-init : goal.loop-node-init
loop-node-init c = visit_begins c.args.start c.requires.rests c.requires.fresh c.requires.inside c.push.ensures.items

pub next_way-requires : goal.next_way-requires
next_way-requires c = last_inside c.loop-node.invariant c.pop.new.self.items c.in-Some.node c.in-Some.ensures.items

pub returns-in_err-way-clause-err : goal.returns-in_err-way-clause-err
returns-in_err-way-clause-err c =
    search (rules, visit_loops c.loop-node.invariant c.pop.new.self.items c.in-Some.node c.in-Some.ensures.items, c.next_way.ensures)

pub push-requires-in-Some-2-2 : goal.push-requires-in-Some-2-2
push-requires-in-Some-2-2 c =
    let next : NextWay (tabled c.args.self.now.nodes.now) c.loop-node.visits.marks c.in-Some.node (Ok (Some c.in-Some-2.way)) = search (rules, c.next_way.ensures) in
    let r = open_room c.loop-node.invariant c.pop.new.self.items c.in-Some.node c.in-Some.ensures.items next in
    (omega arith, omega (arith, c.push-in-Some-2.ensures.len))

pub loop-node-preserved-in-Some-2 : goal.loop-node-preserved-in-Some-2
loop-node-preserved-in-Some-2 c =
    let next : NextWay (tabled c.args.self.now.nodes.now) c.loop-node.visits.marks c.in-Some.node (Ok (Some c.in-Some-2.way)) = search (rules, c.next_way.ensures) in
    visit_goes_on c.loop-node.invariant c.pop.new.self.items c.in-Some.node c.in-Some.ensures.items next (search (rules, c.push-in-Some-2.ensures.items, c.push-in-Some-2-2.ensures.items))

pub bounds-visits-node : goal.bounds-visits-node
bounds-visits-node c = last_inside c.loop-node.invariant c.pop.new.self.items c.in-Some.node c.in-Some.ensures.items

pub push-requires-in_default-2 : goal.push-requires-in_default-2
push-requires-in_default-2 c =
    let r = done_room c.loop-node.invariant c.pop.new.self.items c.in-Some.node c.in-Some.ensures.items in (omega arith, omega arith)

pub loop-node-smaller : goal.loop-node-smaller
loop-node-smaller c =
    let e = leaves_less c.loop-node.invariant c.pop.new.self.items c.in-Some.node c.in-Some.ensures.items in omega (arith, e, c.in-Some.ensures.len)

pub loop-node-preserved : goal.loop-node-preserved
loop-node-preserved c =
    let next : NextWay (tabled c.args.self.now.nodes.now) c.loop-node.visits.marks c.in-Some.node (Ok None) = search (rules, c.next_way.ensures) in
    visit_leaves c.loop-node.invariant c.pop.new.self.items c.in-Some.node c.in-Some.ensures.items next c.push-in_default-2.ensures.items
