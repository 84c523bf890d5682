-- Symbols in a log: codes of a fixed number of capital hex digits.
--   symbol   the symbol of a code's text, absent where the text is no code or no symbol has it
-- Assumes nothing.
use Rattle.std.specs.Prelude.{ℕ, cond, List, length, None, Ok, Err, Option, Result, ◌==◌}
use Rattle.field.specs.Laws.{of_code}
use Rattle.field.specs.Alphabet.{Alphabet}
use Rattle.portal_log.specs.declared.name.FieldName.{FieldName}
use Rattle.portal_log.specs.Names.{digits}
use Rattle.portal_log.specs.Numbers.{hex_value}

module _ {K S : Type 0} (A : Alphabet K S) where
  abbrev pub coded : Result ℕ ℕ → Option S
  coded (Ok code) = of_code A.size A.element code
  coded (Err place) = None

  abbrev pub symbol : FieldName → List ℕ → Option S
  symbol name text = cond (length text == digits name) (coded (hex_value text)) None
