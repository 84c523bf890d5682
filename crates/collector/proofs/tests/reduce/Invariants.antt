-- The rows are a window of the dimension so far, and wide enough.
use Rattle.std.proofs.Common.{◌+◌, ◌≤◌, length}
use Rattle.field.proofs.Members.{alphabet}
use Rattle.packet.specs.Packets.{packet_rows}
use Rattle.collector.specs.Windows.{Window}
use Rattle.collector.proofs.tests.reduce.Given as goal

abbrev pub invariant-loop-packet : goal.invariant-loop-packet
invariant-loop-packet g l =
    let A = alphabet g.F.Scalar.FiniteField g.F.FiniteField g.F.SymbolField in
    Window A.scalars (packet_rows A) l.dimension l.rows × (A.m + A.m ≤ length l.rows)
