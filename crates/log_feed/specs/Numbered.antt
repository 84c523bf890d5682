-- The packets of one block number in a log.
--   with_number      the packet of an entry that is a packet line with this number
--   numbered         the packets of all entries with this number, in order, whatever their headers
--   log_packets      those of a log
--   Feeding          a feed: a reader of the lines that are left, and the number
--   fed              what a feed has still to come; of a log that is too long, nothing
--   names            a first line was read, and it names this field
--   feed_refusal     why no feed is made: the lowest refusal that applies
-- Assumes nothing.
use Rattle.std.specs.Prelude.{ℕ, Bool, false, cond, not, List, [], ◌∷◌, length, Some, None, Option, ◌==◌, nat_lt}
use Rattle.std.specs.List.{filter_map}
use Rattle.std.specs.Str.{bytes_eq}
use Rattle.field.specs.Alphabet.{Alphabet}
use Rattle.packet.specs.declared.Packet.{Packet}
use Rattle.answer.specs.declared.refusal.Refusal.{Refusal}
use Rattle.answer.specs.declared.refusal.Refusal.TheVariants.{BlockNumber, LogLong, LineShape}
use Rattle.answer.specs.Refusals.{first_cause}
use Rattle.portal_log.specs.declared.head.Head.{Head}
use Rattle.portal_log.specs.declared.name.FieldName.{FieldName}
use Rattle.portal_log.specs.declared.reader.Reader.{Reader}
use Rattle.portal_log.specs.Text.{lines}
use Rattle.portal_log.specs.Names.{spelled}
use Rattle.portal_log.specs.Heads.{first_head}
use Rattle.portal_log.specs.Entries.{log_limit, Entry, packet_at, erased_at, unreadable_at, packet_of, log_entries}
use Rattle.portal_log.specs.Readers.{left_entries}

abbrev pub names : FieldName → Option Head → Bool
names name None = false
names name (Some h) = bytes_eq (spelled h.name) (spelled name)

abbrev pub feed_refusal : FieldName → ℕ → List ℕ → Option Refusal
feed_refusal name number log =
    first_cause ((nat_lt 7 number, BlockNumber) ∷ (nat_lt log_limit (length log), LogLong) ∷ (not (names name (first_head (lines log))), LineShape) ∷ [])

pub record Feeding (S : Type 0) : Type 0 where
  pub reader : Reader S
  pub number : ℕ

module _ {K S : Type 0} (A : Alphabet K S) (name : FieldName) (n : ℕ) where
  abbrev pub when_number : Option (ℕ × Packet S) → Option (Packet S)
  when_number None = None
  when_number (Some p) = cond (p.0 == n) (Some p.1) None

  abbrev pub with_number : Entry → Option (Packet S)
  with_number (packet_at number header payload) = when_number (packet_of A name number.text header.text payload.text)
  with_number (erased_at place) = None
  with_number (unreadable_at line) = None

  abbrev pub numbered : List Entry → List (Packet S)
  numbered entries = filter_map with_number entries

  abbrev pub log_packets : List ℕ → List (Packet S)
  log_packets log = numbered (log_entries A name log)

  abbrev pub fed : Reader S → List (Packet S)
  fed r = cond (nat_lt log_limit (length r.lines.text.now)) [] (numbered (left_entries A name r))
