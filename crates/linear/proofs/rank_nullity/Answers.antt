use Rattle.linear.proofs.Maps.{rank_nullity}
use Rattle.linear.proofs.rank_nullity.Goals as goal

pub returns : goal.returns
returns g c = λ F R S rows images L f linear d k r. rank_nullity rows images linear
