use Rattle.linearized.proofs.Division.{division_unique}
use Rattle.linearized.proofs.division_unique.Goals as goal

pub returns : goal.returns
returns g c = λ A laws. division_unique laws
