use Rattle.linear.proofs.Dims.{spans_self}
use Rattle.linear.proofs.Forms.{dim_exists}
use Rattle.linearized.proofs.Distances.{distance_exists}
use Rattle.linearized.proofs.distance_exists.Goals as goal

pub returns : goal.returns
returns g c = λ F R laws L M. distance_exists laws (dim_exists laws L (spans_self R L)).1 (dim_exists laws M (spans_self R M)).1
