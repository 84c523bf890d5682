use Rattle.linear.proofs.Sums.{sum_spans}
use Rattle.linear.proofs.sum_spanned.Goals as goal

pub returns : goal.returns
returns g c = λ F R laws L M. sum_spans laws L M
