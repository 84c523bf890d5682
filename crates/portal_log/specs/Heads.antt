-- The first line of a log, `L,NAME,ℓ,k`.
--   head_of      what a first line says, absent where it is not of its shape
--   head_text    the first line without its LF
--   head_line    the first line as it is written
--   first_head   what the first of some lines says, absent where there is none
-- Assumes nothing.
use Rattle.std.specs.Prelude.{ℕ, cond, List, [], ◌∷◌, Some, None, codes, decimal, Option}
use Rattle.std.specs.Str.{bytes_eq}
use Rattle.portal_log.specs.declared.head.Head.{Head}
use Rattle.portal_log.specs.declared.name.FieldName.{FieldName}
use Rattle.std.specs.List.{join_with_byte}
use Rattle.portal_log.specs.Text.{comma, parts, four, line}
use Rattle.portal_log.specs.Numbers.{small}
use Rattle.portal_log.specs.Names.{spelled, named}

abbrev pub head_values : Option FieldName → Option ℕ → Option ℕ → Option Head
head_values None ℓ k = None
head_values (Some name) None k = None
head_values (Some name) (Some ℓ) None = None
head_values (Some name) (Some ℓ) (Some k) = Some (record { name = name; l = ℓ; k = k })

abbrev pub head_parts : Option (List ℕ × List ℕ × List ℕ × List ℕ) → Option Head
head_parts None = None
head_parts (Some p) = cond (bytes_eq p.0 (codes "L")) (head_values (named p.1) (small p.2) (small p.3)) None

abbrev pub head_of : List ℕ → Option Head
head_of text = head_parts (four (parts text))

abbrev pub head_text : Head → List ℕ
head_text h = join_with_byte comma (codes "L" ∷ spelled h.name ∷ decimal h.l ∷ decimal h.k ∷ [])

abbrev pub head_line : Head → List ℕ
head_line h = line (codes "L" ∷ spelled h.name ∷ decimal h.l ∷ decimal h.k ∷ [])

abbrev pub first_head : List (List ℕ) → Option Head
first_head [] = None
first_head (first ∷ texts) = head_of first
