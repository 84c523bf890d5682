use Rattle.linearized.proofs.Messages.{minimum_distance}
use Rattle.linearized.proofs.minimum_distance.Goals as goal

pub returns : goal.returns
returns g c = λ A laws. minimum_distance laws
