use Rattle.walks.proofs.Imaging.{lawful_placeable}
use Rattle.walks.proofs.Turning.{placement_right}
use Rattle.walks.proofs.TurnedImages.{turned_right}
use Rattle.walks.proofs.placing.placement_is_right.Goals as goal

pub returns-clause-right : goal.returns-clause-right
returns-clause-right c = placement_right

pub returns-clause-placeable : goal.returns-clause-placeable
returns-clause-placeable c = lawful_placeable

pub returns-clause-turned : goal.returns-clause-turned
returns-clause-turned c = turned_right
