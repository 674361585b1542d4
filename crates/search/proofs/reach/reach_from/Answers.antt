use Rattle.std.proofs.Common.{[], rules}
use Rattle.search.proofs.Flooding.{begins, reached_reaches}
use Rattle.search.proofs.reach.reach_from.Goals as goal

pub add-requires-clause-queued : goal.add-requires-clause-queued
add-requires-clause-queued c = (begins {starts = []} c.new-flood.ensures.seen c.new-flood.ensures.queue).queued

pub returns : goal.returns
returns c n h =
    search (rules, c.spread.ensures n h, reached_reaches c.args.nodes.now c.args.start 1024 c.told-nodes c.new-flood.ensures.seen c.within.ensures c.add.ensures n h)
