use Rattle.linear.proofs.Dims.{spans_self}
use Rattle.packet.specs.Packets.{packet_rows}
use Rattle.linearized.proofs.Residuals.{residual_rank}
use Rattle.linearized.proofs.residual_rank.Goals as goal

pub returns : goal.returns
returns g c = λ A laws ℓ r s b fits L u headers. residual_rank laws ℓ fits L (spans_self (packet_rows A) L) headers u
