-- The text has the lines of the packets so far.
use Rattle.std.proofs.Common.{◌≡◌, take, string_bytes}
use Rattle.std.specs.List.{flat_map}
use Rattle.field.proofs.Members.{alphabet}
use Rattle.sending.specs.Blocks.{packet_line}
use Rattle.sending.proofs.writing.packet_lines.Given as goal

abbrev pub invariant-loop-packet : goal.invariant-loop-packet
invariant-loop-packet g l =
    string_bytes l.text ≡ flat_map (packet_line (alphabet g.F.Scalar.FiniteField g.F.FiniteField g.F.SymbolField) g.F.LogField.FIELD_NAME l.number) (take l.packet-index l.packets)
