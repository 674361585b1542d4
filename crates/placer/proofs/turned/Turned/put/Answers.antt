use Rattle.std.proofs.Common.{false, sym, ◌∙◌}
use Rattle.std.proofs.lemmas.List.{set-set, set-get_or}
use Rattle.paths.specs.Net.{no_node}
use Rattle.placer.proofs.turned.Turned.put.Goals as goal

pub returns-clause-former : goal.returns-clause-former
returns-clause-former c =
    let t = c.args.self.now in
    let at = c.args.at in
    record {
      nodes = sym (set-set t.nodes at c.args.entry.node _ ∙ set-get_or t.nodes at no_node);
      saves = sym (set-set t.saves at c.args.entry.save _ ∙ set-get_or t.saves at false);
      starts = sym (set-set t.starts _ c.args.entry.start _ ∙ set-get_or t.starts _ false);
    }
