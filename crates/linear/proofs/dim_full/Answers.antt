use Rattle.linear.proofs.Dims.{dim_full}
use Rattle.linear.proofs.dim_full.Goals as goal

pub returns : goal.returns
returns g c = λ F R laws L M d f hd he v. (f v, dim_full laws f hd he v)
