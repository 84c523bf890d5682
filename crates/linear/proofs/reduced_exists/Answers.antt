use Rattle.linear.proofs.Dims.{spans_self}
use Rattle.linear.proofs.Forms.{reduced_exists}
use Rattle.linear.proofs.reduced_exists.Goals as goal

pub returns : goal.returns
returns g c = λ F R laws L. reduced_exists laws L (spans_self R L)
