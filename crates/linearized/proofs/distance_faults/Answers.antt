use Rattle.packet.proofs.Packets.{packet_laws}
use Rattle.linearized.proofs.Distances.{distance_faults}
use Rattle.linearized.proofs.Codewords.{codeword_dim}
use Rattle.linearized.proofs.distance_faults.Goals as goal

pub returns : goal.returns
returns g c = λ A laws ℓ r s d fits L u dim-U dim-meet. distance_faults (packet_laws laws) dim-U (codeword_dim laws ℓ fits u) dim-meet
