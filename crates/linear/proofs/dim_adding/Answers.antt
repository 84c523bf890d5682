use Rattle.linear.proofs.Forms.{dim_adding}
use Rattle.linear.proofs.dim_adding.Goals as goal

pub returns : goal.returns
returns g c = λ F R laws L v d. dim_adding laws L
