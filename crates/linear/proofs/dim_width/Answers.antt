use Rattle.linear.proofs.Forms.{dim_width}
use Rattle.linear.proofs.dim_width.Goals as goal

pub returns : goal.returns
returns g c = λ F R laws L d. dim_width laws
