use Rattle.linear.proofs.Dims.{dim_mono}
use Rattle.linear.proofs.dim_mono.Goals as goal

pub returns : goal.returns
returns g c = λ F R laws L M d e f. dim_mono laws f
