-- Readers of a log's lines.
--   left_entries   what the lines are that a reader has left
--   GivesEntry     one call of a reader
-- Assumes nothing.
use Rattle.std.specs.Iterator.{YieldsFirstBy}
use Rattle.std.specs.Prelude.{◌≡◌, List, map, IfSome, Option}
use Rattle.field.specs.Alphabet.{Alphabet}
use Rattle.portal_log.specs.declared.line.Line.{Line}
use Rattle.portal_log.specs.declared.name.FieldName.{FieldName}
use Rattle.portal_log.specs.declared.reader.Reader.{Reader}
use Rattle.portal_log.specs.Entries.{Entry, EntryStands, entry}
use Rattle.portal_log.specs.Views.{placed_lines, shown}

module _ {K S : Type 0} (A : Alphabet K S) (name : FieldName) where
  abbrev pub left_entries : Reader S → List Entry
  left_entries s = map (entry A name) (placed_lines s.lines)

  pub record GivesEntry (s : Reader S) (r : Option Line) (t : Reader S) : Type 0 where
    pub gives : YieldsFirstBy shown left_entries s r t
    pub stands : IfSome r (λ line. EntryStands s.lines.text.now (shown line))
    pub same : t.lines.text.now ≡ s.lines.text.now
