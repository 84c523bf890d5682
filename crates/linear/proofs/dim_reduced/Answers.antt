use Rattle.linear.proofs.Dims.{spans_self}
use Rattle.linear.proofs.Forms.{reduced_independent, reduced_dim}
use Rattle.linear.proofs.dim_reduced.Goals as goal

pub returns : goal.returns
returns g c = λ F R laws L r. (reduced_independent laws r, reduced_dim laws (r, spans_self R L))
