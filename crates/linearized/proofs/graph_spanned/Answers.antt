use Rattle.linear.proofs.Spans.{from_independent, to_independent}
use Rattle.linear.proofs.Dims.{spans_self}
use Rattle.field.specs.Alphabet.{symbol_rows}
use Rattle.field.proofs.Symbols.{symbol_laws}
use Rattle.packet.proofs.Packets.{packet_laws}
use Rattle.linearized.proofs.Codewords.{graph_spanned, graph_indep}
use Rattle.linearized.proofs.graph_spanned.Goals as goal

pub returns : goal.returns
returns g c = λ A laws u X. (
  graph_spanned laws u X (spans_self (symbol_rows A) X),
  λ free. to_independent (packet_laws laws) (graph_indep laws u X (from_independent (symbol_laws laws) X free)),
)
