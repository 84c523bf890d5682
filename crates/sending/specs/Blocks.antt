-- Block sheets, and what a sender gives out for one.
--   refusal_line   a refusal as the whole output, with the number of its line
--   printed        a first line and the texts after it, or only the refusal
--   message_of     the symbols of codes
--   block_of       the number and the message of a block line, `number,code,code,..`
--   packet_line    a packet as a line of a log
--   block_text     the lines of a block's packets
--   blocks_text    those of all block lines, or the first refusal and the number of its line
--   sent_in        what is printed for a sheet in one field
--   sent           what is printed for a sheet
-- Assumes nothing.
use Rattle.std.specs.Prelude.{ℕ, ◌+◌, cond, not, List, [], ◌∷◌, ◌++◌, map, length, Some, None, Ok, Err, codes, decimal, Option, Result, ◌==◌, nat_lt}
use Rattle.std.specs.List.{flat_map}
use Rattle.std.specs.Option.{ok_or}
use Rattle.std.specs.Result.{result_map_both}
use Rattle.field.specs.Alphabet.{Alphabet}
use Rattle.packet.specs.declared.Packet.{Packet}
use Rattle.answer.specs.declared.refusal.Refusal.{Refusal}
use Rattle.answer.specs.declared.refusal.Refusal.TheVariants.{Parameters, BlockNumber, MessageLength, LineShape}
use Rattle.linearized.specs.Code.{packets}
use Rattle.subspace_code.specs.Encoding.{fits}
use Rattle.answer.specs.Refusals.{number, first_cause, answered}
use Rattle.portal_log.specs.declared.head.Head.{Head}
use Rattle.portal_log.specs.declared.name.FieldName.{FieldName}
use Rattle.portal_log.specs.declared.name.FieldName.TheVariants.{Octet, Word, Nibble}
use Rattle.portal_log.specs.Text.{lines, parts, line}
use Rattle.portal_log.specs.Numbers.{one_digit, hex}
use Rattle.portal_log.specs.Names.{digits}
use Rattle.field.specs.Alphabets.{octet_alphabet, word_alphabet, nibble_alphabet}
use Rattle.portal_log.specs.Symbols.{symbol}
use Rattle.portal_log.specs.Heads.{head_of, head_line}
use Rattle.sending.specs.Outcomes.{and_then, onto, all}

abbrev pub refusal_line : Refusal → ℕ → List ℕ
refusal_line refusal n = line (codes "X" ∷ decimal (number refusal) ∷ decimal n ∷ [])

abbrev pub printed : List ℕ → Result (List (List ℕ)) (Refusal × ℕ) → List ℕ
printed first (Ok texts) = first ++ flat_map (λ t. t) texts
printed first (Err at) = refusal_line at.0 at.1

module _ {K S : Type 0} (A : Alphabet K S) (name : FieldName) where
  abbrev pub message_of : List (List ℕ) → Result (List S) Refusal
  message_of texts = all (map (λ text. ok_or (symbol A name text) LineShape) texts)

  abbrev pub block_of : List (List ℕ) → Result (ℕ × List S) Refusal
  block_of [] = Err LineShape
  block_of (first ∷ texts) =
      and_then (ok_or (one_digit first) LineShape) (λ n. and_then (message_of texts) (λ u. answered (first_cause ((nat_lt 7 n, BlockNumber) ∷ [])) (n, u)))

  abbrev pub packet_line : ℕ → Packet S → List ℕ
  packet_line n p = line (codes "P" ∷ decimal n ∷ hex (digits name) (A.code p.x) ∷ hex (digits name) (A.code p.y) ∷ [])

  abbrev pub block_text : (k ℓ : ℕ) → ℕ × List S → Result (List ℕ) Refusal
  block_text k ℓ b = answered (first_cause ((not (length b.1 == k), MessageLength) ∷ [])) (flat_map (packet_line b.0) (packets A ℓ b.1))

  -- the lines from number n on
  abbrev pub blocks_text : (k ℓ n : ℕ) → List (List ℕ) → Result (List (List ℕ)) (Refusal × ℕ)
  blocks_text k ℓ n [] = Ok []
  blocks_text k ℓ n (text ∷ texts) = onto (result_map_both (λ t. t) (λ refusal. (refusal, n)) (and_then (block_of (parts text)) (block_text k ℓ))) (blocks_text k ℓ (n + 1) texts)

  -- the first line is the head h
  abbrev pub sent_in : Head → List (List ℕ) → List ℕ
  sent_in h texts = cond (fits h.k h.l A.m) (printed (head_line h) (blocks_text h.k h.l 2 texts)) (refusal_line Parameters 1)

-- the first line decides the field
abbrev pub sent_by : Option Head → List (List ℕ) → List ℕ
sent_by None texts = refusal_line LineShape 1
sent_by (Some h) texts = elim h.name [
  | Octet ↦ sent_in octet_alphabet Octet h texts
  | Word ↦ sent_in word_alphabet Word h texts
  | Nibble ↦ sent_in nibble_alphabet Nibble h texts
]

abbrev pub sent_lines : List (List ℕ) → List ℕ
sent_lines [] = refusal_line LineShape 1
sent_lines (first ∷ texts) = sent_by (head_of first) texts

abbrev pub sent : List ℕ → List ℕ
sent sheet = sent_lines (lines sheet)
