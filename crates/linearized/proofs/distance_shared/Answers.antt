use Rattle.linearized.proofs.Distances.{distance_shared}
use Rattle.linearized.proofs.distance_shared.Goals as goal

pub returns : goal.returns
returns g c = λ F R laws L M a b s d dim-L dim-M dim-meet. distance_shared laws dim-L dim-M dim-meet
