use Rattle.linear.proofs.Dims.{spans_self}
use Rattle.packet.specs.Packets.{packet_rows}
use Rattle.linearized.proofs.Residuals.{within_test}
use Rattle.linearized.proofs.Decoding.{decoding_only}
use Rattle.linearized.proofs.decoding_measured.Goals as goal

pub returns : goal.returns
returns g c = λ A laws k ℓ r b fits L Qx Qy D f R u headers dim-U pair negative divided long front rank.
    let spans = spans_self (packet_rows A) L in (
      (within_test laws ℓ fits L spans headers u dim-U rank long).1,
      decoding_only laws k ℓ r fits L spans headers dim-U Qx Qy D f R u pair negative divided long front b rank,
    )
