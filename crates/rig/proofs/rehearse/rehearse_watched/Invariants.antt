use Rattle.std.proofs.Common.{◌≡◌, length, take, drop}
use Rattle.claims.specs.History.{History}
use Rattle.claims.specs.Round.{machine_of}
use Rattle.rig.specs.Seen.{seen}
use Rattle.rig.specs.Watch.{Told}
use Rattle.rig.proofs.rehearse.rehearse_watched.Given as goal

abbrev pub invariant-loop-made : goal.invariant-loop-made
invariant-loop-made g l =
    record {
      history : History g.S.Supply (machine_of g.M.PriceModel.means l.round) l.fn.supply (take l.made l.calls) (take l.made l.replies) (seen l.rig);
      rest : drop l.made l.replies ≡ drop l.made l.initial.replies;
      told : Told g.W.Watch.tells l.initial.watch l.made (take l.made l.replies) l.watch;
      same_length : length l.replies ≡ length l.initial.replies;
    }
