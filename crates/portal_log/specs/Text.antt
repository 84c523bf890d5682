-- Text: lines, and the parts of a line between commas. A text is the list of its bytes.
--   lf, comma   the byte that ends a line, and the byte between two parts
--   before b    how many bytes stand before the first b; all of them where there is none
--   pieces b    what stands between the bytes b, with `last` for what an empty end gives
--   lines       the lines of a text; a last line may lack its LF, and is not empty then
--   parts       the parts of a line
--   four        the parts where there are four, as each line of a log has; also parts with their places
--   line        the line of some parts, with its LF
-- Assumes nothing.
use Rattle.std.specs.Prelude.{ℕ, suc, cond, List, [], ◌∷◌, ◌++◌, Some, None, Option, ◌==◌}

abbrev pub lf : ℕ
lf = 10

abbrev pub comma : ℕ
comma = 44

abbrev pub before : ℕ → List ℕ → ℕ
before b [] = 0
before b (c ∷ cs) = cond (c == b) 0 (suc (before b cs))

-- c before the first piece
abbrev pub onto_first : ℕ → List (List ℕ) → List (List ℕ)
onto_first c [] = (c ∷ []) ∷ []
onto_first c (p ∷ ps) = (c ∷ p) ∷ ps

abbrev pub pieces : ℕ → List (List ℕ) → List ℕ → List (List ℕ)
pieces b last [] = last
pieces b last (c ∷ cs) = cond (c == b) ([] ∷ pieces b last cs) (onto_first c (pieces b last cs))

abbrev pub lines : List ℕ → List (List ℕ)
lines text = pieces lf [] text

abbrev pub parts : List ℕ → List (List ℕ)
parts text = pieces comma ([] ∷ []) text

abbrev pub four : {X : Type 0} → List X → Option (X × X × X × X)
four [] = None
four (a ∷ []) = None
four (a ∷ b ∷ []) = None
four (a ∷ b ∷ c ∷ []) = None
four (a ∷ b ∷ c ∷ d ∷ []) = Some (a, b, c, d)
four (a ∷ b ∷ c ∷ d ∷ e ∷ ps) = None

abbrev pub line : List (List ℕ) → List ℕ
line [] = lf ∷ []
line (p ∷ []) = p ++ lf ∷ []
line (p ∷ q ∷ ps) = p ++ comma ∷ line (q ∷ ps)
