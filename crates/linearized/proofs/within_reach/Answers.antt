use Rattle.linearized.proofs.Decoding.{within_reach}
use Rattle.linearized.proofs.within_reach.Goals as goal

pub returns : goal.returns
returns g c = λ A laws k ℓ r fits L u dim-U within. within_reach laws k ℓ r fits dim-U u within
