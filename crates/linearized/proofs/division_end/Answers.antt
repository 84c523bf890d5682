use Rattle.linearized.proofs.Division.{dividing_end}
use Rattle.linearized.proofs.division_end.Goals as goal

pub returns : goal.returns
returns g c = λ A laws. dividing_end laws
