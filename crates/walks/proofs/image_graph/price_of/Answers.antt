use Rattle.walks.proofs.Imaging.{lawful_small, lawful_sound}
use Rattle.walks.proofs.image_graph.price_of.Goals as goal

pub returns-clause-sound : goal.returns-clause-sound
returns-clause-sound g c = lawful_sound

pub returns-clause-small : goal.returns-clause-small
returns-clause-small g c = lawful_small
