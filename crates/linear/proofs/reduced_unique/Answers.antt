use Rattle.linear.proofs.Forms.{reduced_unique}
use Rattle.linear.proofs.reduced_unique.Goals as goal

pub returns : goal.returns
returns g c = λ F R laws L M N. reduced_unique laws M N
