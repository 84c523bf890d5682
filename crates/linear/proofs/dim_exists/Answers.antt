use Rattle.linear.proofs.Dims.{spans_self}
use Rattle.linear.proofs.Forms.{dim_exists}
use Rattle.linear.proofs.dim_exists.Goals as goal

pub returns : goal.returns
returns g c = λ F R laws L. dim_exists laws L (spans_self R L)
