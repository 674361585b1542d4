use Rattle.std.proofs.Common.{arith}
use Rattle.search.proofs.Flooding.{room, added}
use Rattle.search.proofs.reach.Flood.add.Goals as goal

pub push-requires : goal.push-requires
push-requires c = let r = room c.requires.queued (c.requires.inside c.in-Some.node c.in-Some.is) c.if-self-node.false in omega arith

pub returns : goal.returns
returns c = added c.requires.queued (c.requires.inside c.in-Some.node c.in-Some.is) c.if-self-node.false c.in-Some.is c.push.ensures.items
