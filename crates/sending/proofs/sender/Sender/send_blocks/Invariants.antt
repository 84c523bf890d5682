-- The text so far with what comes of the lines that are left is the whole output, and each turn takes a line.
use Rattle.std.proofs.Common.{◌≡◌, ◌+◌, length, string_bytes}
use Rattle.std.specs.Iterator.Adapters.{enumerate_source, enumerate_count}
use Rattle.field.proofs.Members.{alphabet}
use Rattle.portal_log.specs.Views.{left_lines}
use Rattle.sending.specs.Blocks.{printed, blocks_text}
use Rattle.sending.proofs.sender.Sender.send_blocks.Given as goal

abbrev pub invariant-loop-i : goal.invariant-loop-i
invariant-loop-i g l =
    let texts = blocks_text (alphabet g.F.Scalar.FiniteField g.F.FiniteField g.F.SymbolField) g.F.LogField.FIELD_NAME l.self.parameters.k l.self.parameters.l in
    let left = left_lines (enumerate_source l.i-iterator) in
    let whole = left_lines (enumerate_source l.initial.i-iterator) in
    (goal.iterator-loop-i g).can_next l.i-iterator × (goal.iterator-loop-i g).is_finite l.i-iterator
    × (enumerate_count l.i-iterator + length left ≡ length whole)
    × (printed (string_bytes l.text) (texts (enumerate_count l.i-iterator + 2) left) ≡ printed (string_bytes l.initial.text) (texts 2 whole))
