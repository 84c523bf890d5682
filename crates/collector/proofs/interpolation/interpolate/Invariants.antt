-- After i packets both pairs vanish on the first i.
use Rattle.field.proofs.Members.{alphabet}
use Rattle.linearized.specs.Interpolation.{Interpolating}
use Rattle.collector.proofs.interpolation.interpolate.Given as goal

abbrev pub invariant-loop-packet : goal.invariant-loop-packet
invariant-loop-packet g l =
    Interpolating (alphabet g.F.Scalar.FiniteField g.F.FiniteField g.F.SymbolField) l.parameters.k l.packets l.packet-index l.state
