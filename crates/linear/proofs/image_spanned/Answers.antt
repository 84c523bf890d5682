use Rattle.linear.proofs.Dims.{spans_self}
use Rattle.linear.proofs.Maps.{image_spans}
use Rattle.linear.proofs.image_spanned.Goals as goal

pub returns : goal.returns
returns g c = λ F R S rows images L f linear. image_spans rows images linear L (spans_self R L)
