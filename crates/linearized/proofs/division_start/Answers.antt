use Rattle.linearized.proofs.Division.{dividing_start}
use Rattle.linearized.proofs.division_start.Goals as goal

pub returns : goal.returns
returns g c = λ A laws. dividing_start laws
