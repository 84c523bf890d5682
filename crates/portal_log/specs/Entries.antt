-- Lines of a log after the first: what each is, and where.
--   block_number   the value of a text that is one digit from 0 to 7
--   packet_of      the number and the packet of a packet line's number, header and payload, absent where one of them cannot be read
--   Entry          a packet line by its number, header and payload, an erased slot, or a line that cannot be read
--   EntryStands    each text of an entry is what the log has at its place
--   entry          what the line at a place is: `P,number,x,y`, `E,,,` or neither
--   log_entries    what the lines of a log after the first are
--   log_limit      no feed or sheet reads a log of more bytes
-- Assumes nothing.
use Rattle.std.specs.Prelude.{ℕ, cond, List, map, drop, Some, None, codes, Option, nat_le}
use Rattle.std.specs.Str.{bytes_eq}
use Rattle.field.specs.Alphabet.{Alphabet}
use Rattle.packet.specs.declared.Packet.{Packet}
use Rattle.portal_log.specs.declared.name.FieldName.{FieldName}
use Rattle.portal_log.specs.Text.{lines, parts, four}
use Rattle.portal_log.specs.Places.{Placed, placed, Stands}
use Rattle.portal_log.specs.Numbers.{one_digit}
use Rattle.portal_log.specs.Symbols.{symbol}

pub data Entry : Type 0 where
  packet_at : (number header payload : Placed) → Entry
  erased_at : (place : ℕ) → Entry
  unreadable_at : (line : Placed) → Entry

abbrev pub log_limit : ℕ
log_limit = 65536

abbrev pub EntryStands : List ℕ → Entry → Type 0
EntryStands log (packet_at number header payload) = Stands log number × Stands log header × Stands log payload
EntryStands log (erased_at place) = Stands log (record { place = place; text = codes "E,,," })
EntryStands log (unreadable_at line) = Stands log line

abbrev pub at_most_7 : Option ℕ → Option ℕ
at_most_7 None = None
at_most_7 (Some n) = cond (nat_le n 7) (Some n) None

abbrev pub block_number : List ℕ → Option ℕ
block_number text = at_most_7 (one_digit text)

module _ {K S : Type 0} (A : Alphabet K S) (name : FieldName) where
  abbrev pub packet_values : Option ℕ → Option S → Option S → Option (ℕ × Packet S)
  packet_values None x y = None
  packet_values (Some n) None y = None
  packet_values (Some n) (Some x) None = None
  packet_values (Some n) (Some x) (Some y) = Some (n, record { x = x; y = y })

  abbrev pub packet_of : List ℕ → List ℕ → List ℕ → Option (ℕ × Packet S)
  packet_of number header payload = packet_values (block_number number) (symbol A name header) (symbol A name payload)

  -- the line after `P`
  abbrev pub packet_entry : Placed → Placed → Placed → Placed → Entry
  packet_entry line number header payload =
      elim (packet_of number.text header.text payload.text) [ None ↦ unreadable_at line | Some p ↦ packet_at number header payload ]

  abbrev pub other_entry : Placed → Entry
  other_entry line = cond (bytes_eq line.text (codes "E,,,")) (erased_at line.place) (unreadable_at line)

  abbrev pub entry_by : Placed → Option (Placed × Placed × Placed × Placed) → Entry
  entry_by line None = unreadable_at line
  entry_by line (Some p) = cond (bytes_eq p.0.text (codes "P")) (packet_entry line p.1 p.2 p.3) (other_entry line)

  -- a line by its parts
  abbrev pub entry_parts : Placed → List (List ℕ) → Entry
  entry_parts line texts = entry_by line (four (placed line.place texts))

  abbrev pub entry : Placed → Entry
  entry line = entry_parts line (parts line.text)

  abbrev pub log_entries : List ℕ → List Entry
  log_entries log = map entry (drop 1 (placed 0 (lines log)))
