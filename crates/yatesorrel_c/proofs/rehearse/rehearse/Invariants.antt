use Rattle.std.proofs.Common.{◌≡◌, List, length, map, take, drop}
use Rattle.claims.specs.declared.reply.Reply.{Reply}
use Rattle.claims.specs.History.{History}
use Rattle.claims.specs.Round.{machine_of}
use Rattle.rig.specs.Seen.{seen}
use Rattle.yatesorrel_c.specs.Script.{call_in, reply_in}
use Rattle.yatesorrel_c.proofs.rehearse.rehearse.Given as goal

abbrev pub invariant-loop-made : goal.invariant-loop-made
invariant-loop-made g l =
    record {
      answers : List Reply;
      history : History g.S.Supply (machine_of g.M.PriceModel.means l.round) l.fn.supply (map call_in (take l.made l.calls)) answers (seen l.rig);
      told : take l.made l.replies ≡ map reply_in answers;
      rest : drop l.made l.replies ≡ drop l.made l.initial.replies;
      same_length : length l.replies ≡ length l.initial.replies;
    }
