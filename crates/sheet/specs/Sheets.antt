-- The hand-over sheet of a log, as text.
--   refused_text    the whole sheet of a log that is refused: `X,refusal`
--   dimension_of    the dimension that a refusal of solve comes with
--   solve_line      `S,number,taken,r,lost,foreign,faults,u_0,…`, or `N,number,taken,r,refusal`
--   number_line     the line of a number with packets taken, and none of another; `N,number,0,0,refusal` where its packets were refused
--   lines_from      the lines of number b and those after it
--   NumbersText     the lines of all eight numbers, with the totals of packets
--   erased          how many erased slots a log has
--   unreadable      how many lines that cannot be read
--   total_line      `T,taken,passed over,erased,unreadable`
--   SheetIn         a sheet in one field, of a log whose first line is the head h
--   IsSheet         the text is the log's sheet; refusals are judged in the order 14, 15, 1
-- Assumes nothing.
use Rattle.std.specs.Prelude.{◌≡◌, ℕ, ◌+◌, Bool, true, false, cond, List, [], ◌∷◌, ◌++◌, map, length, Some, None, Ok, Err, codes, decimal, Option, Result, ◌==◌, nat_lt}
use Rattle.field.specs.Alphabet.{Alphabet}
use Rattle.field.specs.Alphabets.{octet_alphabet, word_alphabet, nibble_alphabet}
use Rattle.answer.specs.declared.refusal.Refusal.{Refusal}
use Rattle.answer.specs.declared.refusal.Refusal.TheVariants.{Parameters, Rows, BlockNumber, AlreadyOpen, NotOpen, Header, Payload, ListFull, OutputShort, DimensionLow, DimensionHigh, NoneNear, MessageLength, LogLong, LineShape, DivisorZero}
use Rattle.answer.specs.declared.Drained.{Drained}
use Rattle.answer.specs.declared.Solved.{Solved}
use Rattle.answer.specs.Refusals.{number}
use Rattle.subspace_code.specs.Encoding.{fits}
use Rattle.portal_log.specs.declared.head.Head.{Head}
use Rattle.portal_log.specs.declared.name.FieldName.{FieldName}
use Rattle.portal_log.specs.declared.name.FieldName.TheVariants.{Octet, Word, Nibble}
use Rattle.portal_log.specs.Text.{lines, line}
use Rattle.portal_log.specs.Numbers.{hex}
use Rattle.portal_log.specs.Names.{digits}
use Rattle.portal_log.specs.Heads.{first_head}
use Rattle.portal_log.specs.Entries.{log_limit, Entry, packet_at, erased_at, unreadable_at, log_entries}
use Rattle.log_feed.specs.Numbered.{log_packets}
use Rattle.sheet.specs.Outcomes.{Outcome, NumbersRun, total_taken, total_passed}

abbrev pub refused_text : Refusal → List ℕ
refused_text refusal = line (codes "X" ∷ decimal (number refusal) ∷ [])

abbrev pub dimension_of : Refusal → ℕ
dimension_of (DimensionLow r) = r
dimension_of (DimensionHigh r) = r
dimension_of (NoneNear r) = r
dimension_of Parameters = 0
dimension_of Rows = 0
dimension_of BlockNumber = 0
dimension_of AlreadyOpen = 0
dimension_of NotOpen = 0
dimension_of Header = 0
dimension_of Payload = 0
dimension_of ListFull = 0
dimension_of OutputShort = 0
dimension_of MessageLength = 0
dimension_of LogLong = 0
dimension_of LineShape = 0
dimension_of DivisorZero = 0

abbrev pub erased : List Entry → ℕ
erased [] = 0
erased (packet_at number header payload ∷ es) = erased es
erased (erased_at place ∷ es) = erased es + 1
erased (unreadable_at text ∷ es) = erased es

abbrev pub unreadable : List Entry → ℕ
unreadable [] = 0
unreadable (packet_at number header payload ∷ es) = unreadable es
unreadable (erased_at place ∷ es) = unreadable es
unreadable (unreadable_at text ∷ es) = unreadable es + 1

abbrev pub refused_line : (b n r : ℕ) → Refusal → List ℕ
refused_line b n r e = line (codes "N" ∷ decimal b ∷ decimal n ∷ decimal r ∷ decimal (number e) ∷ [])

abbrev pub total_line : (taken passed erased unreadable : ℕ) → List ℕ
total_line taken passed erased unreadable = line (codes "T" ∷ decimal taken ∷ decimal passed ∷ decimal erased ∷ decimal unreadable ∷ [])

module _ {K S : Type 0} (A : Alphabet K S) (name : FieldName) where
  abbrev pub solve_line : (b n : ℕ) → List S → Result Solved Refusal → List ℕ
  solve_line b n u (Ok a) =
      line (codes "S" ∷ decimal b ∷ decimal n ∷ decimal a.dimension ∷ decimal a.lost ∷ decimal a.foreign ∷ decimal a.faults ∷ map (λ x. hex (digits name) (A.code x)) u)
  solve_line b n u (Err e) = refused_line b n (dimension_of e) e

  abbrev pub number_line : ℕ → List S → Result Drained Refusal → Result Solved Refusal → List ℕ
  number_line b u (Ok d) solved = cond (d.kept == 0) [] (solve_line b d.kept u solved)
  number_line b u (Err e) solved = refused_line b 0 0 e

  abbrev pub lines_from : ℕ → List (Outcome S) → List ℕ
  lines_from b [] = []
  lines_from b (o ∷ os) = number_line b o.written o.drain o.solve ++ lines_from (b + 1) os

  pub record NumbersText (k ℓ : ℕ) (log text : List ℕ) (taken passed : ℕ) : Type 0 where
    pub outcomes : List (Outcome S)
    pub run : NumbersRun A k ℓ (λ b. log_packets A name b log) outcomes
    pub is_text : text ≡ lines_from 0 outcomes
    pub is_taken : taken ≡ total_taken outcomes
    pub is_passed : passed ≡ total_passed (λ b. log_packets A name b log) 0 outcomes

  pub record SheetIn (h : Head) (log text : List ℕ) : Type 0 where
    pub front : List ℕ
    pub taken : ℕ
    pub passed : ℕ
    pub numbers : NumbersText h.k h.l log front taken passed
    pub is : text ≡ front ++ total_line taken passed (erased (log_entries A name log)) (unreadable (log_entries A name log))

  abbrev pub SheetFits : Bool → Head → (log text : List ℕ) → Type 0
  SheetFits false h log text = text ≡ refused_text Parameters
  SheetFits true h log text = SheetIn h log text

abbrev pub SheetNamed : FieldName → Head → (log text : List ℕ) → Type 0
SheetNamed Octet h log text = SheetFits octet_alphabet Octet (fits h.k h.l octet_alphabet.m) h log text
SheetNamed Word h log text = SheetFits word_alphabet Word (fits h.k h.l word_alphabet.m) h log text
SheetNamed Nibble h log text = SheetFits nibble_alphabet Nibble (fits h.k h.l nibble_alphabet.m) h log text

abbrev pub SheetBy : Option Head → (log text : List ℕ) → Type 0
SheetBy None log text = text ≡ refused_text LineShape
SheetBy (Some h) log text = SheetNamed h.name h log text

abbrev pub SheetWithin : Bool → (log text : List ℕ) → Type 0
SheetWithin true log text = text ≡ refused_text LogLong
SheetWithin false log text = SheetBy (first_head (lines log)) log text

abbrev pub IsSheet : (log text : List ℕ) → Type 0
IsSheet log text = SheetWithin (nat_lt log_limit (length log)) log text
