-- What values of the code stand for.
--   part_of        a part's text with its place
--   left_lines     the lines that a reader of a text has left
--   placed_lines   those with their places
--   left_parts     the parts that a reader of a line has left
--   GivesLine      one call of a reader of lines
--   texts          what four parts hold
--   shown          what a line of a log is
-- Assumes nothing.
use Rattle.std.specs.Prelude.{◌≡◌, ℕ, ◌^◌, ◌<◌, List, [], length, drop, IfSome, Some, None, Option}
use Rattle.std.specs.Borrow.{Bor}
use Rattle.std.specs.Iterator.{YieldsFirstBy}
use Rattle.portal_log.specs.declared.line.Line.{Line}
use Rattle.portal_log.specs.declared.line.Line.TheVariants.{Packet, Erased, Unreadable}
use Rattle.portal_log.specs.declared.text.Lines.{Lines}
use Rattle.portal_log.specs.declared.text.Part.{Part}
use Rattle.portal_log.specs.declared.text.Parts.{Parts}
use Rattle.portal_log.specs.Places.{Placed, placed, Stands}
use Rattle.portal_log.specs.Text.{lines, parts}
use Rattle.portal_log.specs.Entries.{Entry, packet_at, erased_at, unreadable_at}

abbrev pub part_of : Part → Placed
part_of p = record { place = p.place; text = p.text.now }

abbrev pub left_lines : Lines → List (List ℕ)
left_lines s = lines (drop s.place s.text.now)

abbrev pub placed_lines : Lines → List Placed
placed_lines s = placed s.place (left_lines s)

abbrev pub parts_of : Option (Bor (List ℕ)) → List (List ℕ)
parts_of None = []
parts_of (Some rest) = parts rest.now

abbrev pub left_parts : Parts → List (List ℕ)
left_parts s = parts_of s.rest

pub record GivesLine (s : Lines) (r : Option Part) (t : Lines) : Type 0 where
  pub gives : YieldsFirstBy (λ p. p.text.now) left_lines s r t
  pub places : YieldsFirstBy part_of placed_lines s r t
  pub stands : IfSome r (λ p. Stands s.text.now (part_of p))
  pub same : t.text.now ≡ s.text.now
  pub fits : length s.text.now < 2 ^ 64

abbrev pub texts : Bor (List ℕ) × Bor (List ℕ) × Bor (List ℕ) × Bor (List ℕ) → List ℕ × List ℕ × List ℕ × List ℕ
texts p = (p.0.now, p.1.now, p.2.now, p.3.now)

abbrev pub shown : Line → Entry
shown (Packet number header payload) = packet_at (part_of number) (part_of header) (part_of payload)
shown (Erased place) = erased_at place
shown (Unreadable line) = unreadable_at (part_of line)
