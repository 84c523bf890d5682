use Rattle.linearized.proofs.Interpolation.{interpolating_start}
use Rattle.linearized.proofs.interpolation_start.Goals as goal

pub returns : goal.returns
returns g c = λ A laws. interpolating_start laws
