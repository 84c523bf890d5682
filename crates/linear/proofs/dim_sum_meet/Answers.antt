use Rattle.linear.proofs.Sums.{dim_sum_meet}
use Rattle.linear.proofs.dim_sum_meet.Goals as goal

pub returns : goal.returns
returns g c = λ F R laws L M a b s c. dim_sum_meet laws
