use Rattle.linearized.proofs.Interpolation.{next_exists}
use Rattle.linearized.proofs.interpolation_next.Goals as goal

pub returns : goal.returns
returns g c = λ A laws. next_exists laws
