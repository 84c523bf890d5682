use Rattle.linearized.proofs.Division.{dividing_step}
use Rattle.linearized.proofs.division_step.Goals as goal

pub returns : goal.returns
returns g c = λ A laws D B f R g T e p top so_far step. dividing_step laws D B f R e p top so_far g T step
