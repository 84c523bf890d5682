use Rattle.linear.proofs.Dims.{spans_self}
use Rattle.packet.specs.Packets.{packet_rows}
use Rattle.linearized.proofs.Residuals.{shared_measured}
use Rattle.linearized.proofs.shared_measured.Goals as goal

pub returns : goal.returns
returns g c = λ A laws ℓ r b fits L u headers. shared_measured laws ℓ fits L (spans_self (packet_rows A) L) headers u
