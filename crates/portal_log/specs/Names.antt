-- The names of fields in a log.
--   spelled   a field's name as text
--   fields    all fields that logs can be in
--   named     the field of a name, absent where no field has that name
--   digits    how many hex digits a code has
-- Assumes nothing.
use Rattle.std.specs.Prelude.{ℕ, cond, List, [], ◌∷◌, Some, None, codes, Option}
use Rattle.std.specs.Str.{bytes_eq}
use Rattle.portal_log.specs.declared.name.FieldName.{FieldName}
use Rattle.portal_log.specs.declared.name.FieldName.TheVariants.{Octet, Word, Nibble}

abbrev pub spelled : FieldName → List ℕ
spelled Octet = codes "octet"
spelled Word = codes "word"
spelled Nibble = codes "nibble"

abbrev pub fields : List FieldName
fields = Octet ∷ Word ∷ Nibble ∷ []

abbrev pub named_among : List FieldName → List ℕ → Option FieldName
named_among [] text = None
named_among (field ∷ others) text = cond (bytes_eq text (spelled field)) (Some field) (named_among others text)

abbrev pub named : List ℕ → Option FieldName
named text = named_among fields text

abbrev pub digits : FieldName → ℕ
digits Octet = 2
digits Word = 4
digits Nibble = 7
