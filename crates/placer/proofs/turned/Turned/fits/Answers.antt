use Rattle.std.proofs.Common.{arith}
use Rattle.std.proofs.lemmas.Grind.{common_steps}
use Rattle.certifier.proofs.Fitting.{shortened}
use Rattle.placer.proofs.turned.Turned.fits.Goals as goal

pub returns : goal.returns
returns c g t inside =
    c.fits.ensures g (shortened g c.args.self.now.nodes c.args.self.now.starts c.args.count inside t) (grind (arith, common_steps))
