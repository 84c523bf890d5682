use Rattle.linear.proofs.Dims.{spans_self}
use Rattle.packet.specs.Packets.{packet_rows}
use Rattle.linearized.proofs.Interpolation.{first_interpolates, second_interpolates}
use Rattle.linearized.proofs.interpolation_end.Goals as goal

pub returns : goal.returns
returns g c = λ A laws k L s kept.
    let spans = spans_self (packet_rows A) L in (first_interpolates laws k L spans s kept, second_interpolates laws k L spans s kept)
