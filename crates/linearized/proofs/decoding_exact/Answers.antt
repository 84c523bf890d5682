use Rattle.linearized.proofs.Decoding.{pair_some, decoding_exact}
use Rattle.linearized.proofs.decoding_exact.Goals as goal

pub returns : goal.returns
returns g c = λ A laws k ℓ r fits L u Qx Qy dim-U pair within.
    (pair_some laws k ℓ r fits dim-U u within Qx Qy pair, decoding_exact laws k ℓ r fits dim-U u within Qx Qy pair)
