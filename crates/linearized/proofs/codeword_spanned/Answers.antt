use Rattle.linear.proofs.Spans.{to_independent}
use Rattle.packet.proofs.Packets.{packet_laws}
use Rattle.linearized.proofs.Codewords.{codeword_spanned, packets_indep, codeword_dim}
use Rattle.linearized.proofs.codeword_spanned.Goals as goal

pub returns : goal.returns
returns g c = λ A laws ℓ fits u. (codeword_spanned laws ℓ fits u, to_independent (packet_laws laws) (packets_indep laws ℓ fits u), codeword_dim laws ℓ fits u)
