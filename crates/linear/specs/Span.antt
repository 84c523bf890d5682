-- Spans, dimension, sums and intersections of spaces. A space is a set of rows, as a predicate.
--   combination   the sum of c_i times v_i
--   Span L        all combinations of the rows of L
--   Spans L U     the rows of L span the space U
--   SameSpan      two lists with one span
--   Independent   only the combination of zeros is zero
--   IsDim U d     d is the length of the shortest list that spans U
--   Sum U W       all sums of a row of U and a row of W
--   Meet U W      the rows that U and W share
-- Assumes nothing.
use Rattle.std.specs.Prelude.{◌≡◌, ℕ, ◌≤◌, ◌↔◌, List, [], ◌∷◌, length}
use Rattle.linear.specs.Field.{Field}
use Rattle.linear.specs.Rows.{Rows}

abbrev pub Each : {A : Type 0} → (A → Type 0) → List A → Type 0
Each P [] = Unit {0}
Each P (x ∷ xs) = P x × Each P xs

module _ {K V : Type 0} (R : Rows K V) where
  abbrev pub combination : List K → List V → V
  combination [] vs = R.none
  combination (c ∷ cs) [] = R.none
  combination (c ∷ cs) (v ∷ vs) = R.plus (R.times c v) (combination cs vs)

  abbrev pub Span : List V → V → Type 0
  Span L v = (cs : List K) × (length cs ≡ length L) × (combination cs L ≡ v)

  abbrev pub Spans : List V → (V → Type 0) → Type 0
  Spans L U = (v : V) → Span L v ↔ U v

  abbrev pub SameSpan : List V → List V → Type 0
  SameSpan L M = (v : V) → Span L v ↔ Span M v

  abbrev pub IsDim : (V → Type 0) → ℕ → Type 0
  IsDim U d = ((L : List V) × Spans L U × (length L ≡ d)) × ((L : List V) → Spans L U → d ≤ length L)

  abbrev pub Sum : (V → Type 0) → (V → Type 0) → V → Type 0
  Sum U W v = (u : V) × (w : V) × U u × W w × (R.plus u w ≡ v)

  abbrev pub Meet : (V → Type 0) → (V → Type 0) → V → Type 0
  Meet U W v = U v × W v

  abbrev pub Independent : Field K → List V → Type 0
  Independent F L = (cs : List K) → length cs ≡ length L → combination cs L ≡ R.none → Each (λ c. c ≡ F.zero) cs
