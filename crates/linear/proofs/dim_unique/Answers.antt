use Rattle.linear.specs.Span.{Span}
use Rattle.linear.proofs.Dims.{dim_unique}
use Rattle.linear.proofs.dim_unique.Goals as goal

pub returns : goal.returns
returns g c = λ F R laws L d e. dim_unique R (Span R L)
