-- After i packets the rows are a window on the residuals of those.
use Rattle.std.proofs.Common.{◌≡◌, length}
use Rattle.field.proofs.Members.{alphabet}
use Rattle.collector.specs.Interpolation.{polynomial}
use Rattle.collector.proofs.Measures.{Measuring}
use Rattle.collector.proofs.measuring.measure.Given as goal

abbrev pub invariant-loop-packet : goal.invariant-loop-packet
invariant-loop-packet g l =
    let A = alphabet g.F.Scalar.FiniteField g.F.FiniteField g.F.SymbolField in
    Measuring A (polynomial A l.message) l.packets l.packet-index l.dimension l.rows × (length l.rows ≡ 16)
