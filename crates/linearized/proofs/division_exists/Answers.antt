use Rattle.linearized.proofs.Division.{division}
use Rattle.linearized.proofs.division_exists.Goals as goal

pub returns : goal.returns
returns g c = λ A laws. division laws
