use Rattle.linear.proofs.Forms.{span_decided}
use Rattle.linear.proofs.span_decided.Goals as goal

pub returns : goal.returns
returns g c = λ F R laws L v. span_decided laws L v
