use Rattle.linear.specs.Span.{Span}
use Rattle.packet.specs.Packets.{packet_rows}
use Rattle.linearized.proofs.Decoding.{within_unique}
use Rattle.linearized.proofs.decoding_unique.Goals as goal

pub returns : goal.returns
returns g c = λ A laws k ℓ r fits L u w dim-U in-u in-w. within_unique laws k ℓ r fits (Span (packet_rows A) L) dim-U u w in-u in-w
