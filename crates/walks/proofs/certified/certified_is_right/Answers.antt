use Rattle.walks.proofs.Certifying.{certified_right, walks_complete}
use Rattle.walks.proofs.certified.certified_is_right.Goals as goal

pub returns-clause-right : goal.returns-clause-right
returns-clause-right c = certified_right

pub returns-clause-complete : goal.returns-clause-complete
returns-clause-complete c = walks_complete
