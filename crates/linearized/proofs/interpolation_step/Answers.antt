use Rattle.linearized.proofs.Interpolation.{interpolating_step}
use Rattle.linearized.proofs.interpolation_step.Goals as goal

pub returns : goal.returns
returns g c = λ A laws. interpolating_step laws
