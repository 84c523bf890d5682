use Rattle.linear.proofs.Parts.{meet_spanned}
use Rattle.linear.proofs.meet_spanned.Goals as goal

pub returns : goal.returns
returns g c = λ F R laws L M. meet_spanned laws L M
