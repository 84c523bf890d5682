-- What is counted so far and what is still to come make the whole counts.
use Rattle.std.proofs.Common.{◌≡◌, ◌+◌, List}
use Rattle.field.proofs.Members.{alphabet}
use Rattle.portal_log.specs.declared.reader.Reader.{Reader}
use Rattle.portal_log.specs.Entries.{Entry}
use Rattle.portal_log.specs.Readers.{left_entries}
use Rattle.sheet.specs.Sheets.{erased, unreadable}
use Rattle.sheet.proofs.counting.count_lines.Given as goal

abbrev pub entries : (g : goal.Over) → Reader g.row.F.Denot → List Entry
entries g r = left_entries (alphabet g.F.Scalar.FiniteField g.F.FiniteField g.F.SymbolField) g.F.LogField.FIELD_NAME r

abbrev pub invariant-loop-line : goal.invariant-loop-line
invariant-loop-line g l =
    (goal.iterator-loop-line g).can_next l.line-iterator × (goal.iterator-loop-line g).is_finite l.line-iterator
    × (l.erased + erased (entries g l.line-iterator) ≡ erased (entries g l.initial.line-iterator))
    × (l.unreadable + unreadable (entries g l.line-iterator) ≡ unreadable (entries g l.initial.line-iterator))
