use Rattle.linear.specs.Span.{Span}
use Rattle.packet.specs.Packets.{packet_rows}
use Rattle.linearized.proofs.Interpolation.{interpolation}
use Rattle.linearized.proofs.interpolation_exists.Goals as goal

pub returns : goal.returns
returns g c = λ A laws k r L pos dim. interpolation laws k r pos (Span (packet_rows A) L) dim
