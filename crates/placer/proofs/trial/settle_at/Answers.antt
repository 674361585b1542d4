use Rattle.std.proofs.Common.{rules}
use Rattle.placer.proofs.Trying.{restored, again, settled_not, settled_idle, settled_save}
use Rattle.placer.proofs.trial.settle_at.Goals as goal

pub returns-then-not-turned-at : goal.returns-then-not-turned-at
returns-then-not-turned-at c saving g plain p inside e turns =
    settled_not saving g plain p c.args.budget c.args.at c.args.turned.now turns (search rules)

pub returns-then-stands : goal.returns-then-stands
returns-then-stands c saving g plain p inside e turns =
    let t = c.args.turned.now in
    let at = c.args.at in
    let mid = c.put-former.new.self in
    let first = c.put-former.ensures in
    let back = restored mid at c.put-former.result t c.drop.new.self.0 first.former c.drop.ensures in
    settled_idle saving g plain p c.args.budget at t turns (search rules) (search rules) c.args.plain e mid first.written c.args.count inside
    c.stands-stands.result c.stands-stands.ensures c.if-stands.true c.put.new.self
    (again at _ t c.drop.new.self.0 back mid c.put.new.self first.written c.put.ensures.written)

pub returns-else-stands : goal.returns-else-stands
returns-else-stands c saving g plain p inside e turns =
    let t = c.args.turned.now in
    let at = c.args.at in
    let mid = c.put-former.new.self in
    let first = c.put-former.ensures in
    settled_save saving g plain p c.args.budget at t turns (search rules) (search rules) c.args.plain e mid first.written c.args.count inside
    c.stands-stands.result c.stands-stands.ensures c.if-stands.false c.drop.new.self.0
    (restored mid at c.put-former.result t c.drop.new.self.0 first.former c.drop.ensures)
