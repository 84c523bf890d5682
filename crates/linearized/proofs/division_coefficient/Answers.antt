use Rattle.linearized.proofs.Division.{cancelling}
use Rattle.linearized.proofs.division_coefficient.Goals as goal

pub returns : goal.returns
returns g c = λ A laws. cancelling laws
