use Rattle.linear.proofs.Dims.{spans_self}
use Rattle.packet.specs.Packets.{packet_rows}
use Rattle.linearized.proofs.Residuals.{within_test}
use Rattle.linearized.proofs.within_measured.Goals as goal

pub returns : goal.returns
returns g c = λ A laws k ℓ r b fits L u headers. within_test laws ℓ fits L (spans_self (packet_rows A) L) headers u
