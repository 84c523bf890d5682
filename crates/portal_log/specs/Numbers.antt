-- Numbers in a text: decimals and capital hex digits.
--   digit       the value of a decimal digit
--   one_digit   the value of a text that is one decimal digit
--   small       the value of a decimal of one or two digits, with no leading zero but `0` itself
--   hex_digit   the value of a capital hex digit
--   hex_value   the value of capital hex digits, or the place, from 0, of the first byte that is none
--   glyph       the capital hex digit of a value below 16
--   hex n v     the n lowest hex digits of v, the highest first
-- Assumes nothing.
use Rattle.std.specs.Prelude.{ℕ, zero as 0ₙ, suc, ◌+◌, ◌-◌, ◌*◌, ◌/◌, ◌%◌, ◌^◌, Bool, cond, ◌&&◌, List, [], ◌∷◌, Some, None, Ok, Err, Option, Result, ◌==◌, nat_le, nat_lt}

abbrev pub between : ℕ → ℕ → ℕ → Bool
between low high c = nat_le low c && nat_le c high

-- `0` is 48, `9` is 57
abbrev pub digit : ℕ → Option ℕ
digit c = cond (between 48 57 c) (Some (c - 48)) None

abbrev pub one_digit : List ℕ → Option ℕ
one_digit [] = None
one_digit (c ∷ []) = digit c
one_digit (c ∷ d ∷ cs) = None

abbrev pub tens : Option ℕ → Option ℕ → Option ℕ
tens None o = None
tens (Some a) None = None
tens (Some a) (Some b) = Some (10 * a + b)

abbrev pub small : List ℕ → Option ℕ
small [] = None
small (a ∷ []) = digit a
small (a ∷ b ∷ []) = cond (a == 48) None (tens (digit a) (digit b))
small (a ∷ b ∷ c ∷ cs) = None

-- `A` is 65, `F` is 70
abbrev pub hex_digit : ℕ → Option ℕ
hex_digit c = cond (between 48 57 c) (Some (c - 48)) (cond (between 65 70 c) (Some (c - 55)) None)

-- the bytes from `place` on, after digits with the value v
abbrev pub hex_from : ℕ → ℕ → List ℕ → Result ℕ ℕ
hex_from v place [] = Ok v
hex_from v place (c ∷ cs) = elim (hex_digit c) [ None ↦ Err place | Some d ↦ hex_from (16 * v + d) (place + 1) cs ]

abbrev pub hex_value : List ℕ → Result ℕ ℕ
hex_value text = hex_from 0 0 text

abbrev pub glyph : ℕ → ℕ
glyph d = cond (nat_lt d 10) (48 + d) (55 + d)

abbrev pub hex : ℕ → ℕ → List ℕ
hex 0ₙ v = []
hex (suc n) v = glyph (v / 16 ^ n % 16) ∷ hex n v
