use Rattle.std.proofs.Common.{◌+◌, ◌≤◌, length, sym, subst, arith}
use Rattle.field.specs.Alphabet.{Alphabet, Lawful}
use Rattle.field.proofs.Members.{alphabet}
use Rattle.packet.specs.Packets.{packet_rows}
use Rattle.packet.proofs.Packets.{packet_laws}
use Rattle.collector.specs.Windows.{Window}
use Rattle.collector.proofs.Room.{width_room, window_zero}
use Rattle.collector.proofs.tests.reduce.Given as given
use Rattle.collector.proofs.tests.reduce.Goals as goal

A : (g : given.Over) → Alphabet g.row.F-Scalar.Denot g.row.F.Denot
A g = alphabet g.F.Scalar.FiniteField g.F.FiniteField g.F.SymbolField

laws : (g : given.Over) → Lawful (A g)
unfolding A
laws g = record { scalar_codes = g.met.F.Scalar.FiniteField.codes; codes = g.met.F.FiniteField.codes; extension = g.met.F.SymbolField.extension }

pub add_row-dimension-requires : goal.add_row-dimension-requires
unfolding A
add_row-dimension-requires g c = record {
  window = c.loop-packet.invariant.0;
  room = λ out. width_room (packet_laws (laws g)) c.loop-packet.invariant.0 c.loop-packet.invariant.1 out;
}

pub loop-packet-init : goal.loop-packet-init
unfolding A
loop-packet-init g c = (
  subst (Window (A g).scalars (packet_rows (A g)) 0) (sym c.clear.ensures) (window_zero (packet_laws (laws g)) (length c.args.rows.now)),
  subst (λ m. m + m ≤ length c.clear.new.rows) c.DEGREE-m.ensures c.if-rows-m.false,
)

pub loop-packet-preserved : goal.loop-packet-preserved
loop-packet-preserved g c = (c.add_row-dimension.ensures.added.window, omega (arith, c.loop-packet.invariant.1, c.add_row-dimension.auto.rows))
