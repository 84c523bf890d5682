use Rattle.linear.proofs.Dims.{spans_self}
use Rattle.linear.proofs.Parts.{kernel_spanned}
use Rattle.linear.proofs.kernel_spanned.Goals as goal

pub returns : goal.returns
returns g c = λ F R S rows images L f linear. kernel_spanned rows images linear L (spans_self R L)
