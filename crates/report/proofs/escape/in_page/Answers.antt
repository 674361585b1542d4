-- The theorems on what is shown.
use Rattle.report.proofs.Escaping.{reads_back, harmless}
use Rattle.report.proofs.escape.in_page.Goals as goal

pub returns-clause-back : goal.returns-clause-back
returns-clause-back c = reads_back

pub returns-clause-harmless : goal.returns-clause-harmless
returns-clause-harmless c = harmless
