-- Reduced row echelon form.
--   Leads v p          p is the first place at which v is not zero, and v is one there
--   Reduced L          no zero row; each row's first non-zero coordinate is one; those places rise strictly;
--                      every other row is zero there
--   ReducedForm U L    L is reduced and spans U
-- Assumes nothing.
use Rattle.std.specs.Prelude.{◌≡◌, ℕ, ◌<◌, List, length, slice_index, slice_index_or}
use Rattle.linear.specs.Field.{Field}
use Rattle.linear.specs.Rows.{Rows}
use Rattle.linear.specs.Span.{Spans}

module _ {K V : Type 0} (F : Field K) (R : Rows K V) where
  abbrev pub Leads : V → ℕ → Type 0
  Leads v p = (p < R.width) × (R.coord v p ≡ F.one) × ((i : ℕ) → i < p → R.coord v i ≡ F.zero)

  -- the i-th row leads at the i-th of the places `at`
  pub record Reduced (L : List V) : Type 0 where
    pub at : List ℕ
    pub many : length at ≡ length L
    pub leads : (i : ℕ) → i < length L → Leads (slice_index_or L i R.none) (slice_index at i)
    pub rise : (i j : ℕ) → i < j → j < length L → slice_index at i < slice_index at j
    pub others : (i j : ℕ) → i < length L → j < length L → ¬ (i ≡ j) → R.coord (slice_index_or L j R.none) (slice_index at i) ≡ F.zero

  abbrev pub ReducedForm : (V → Type 0) → List V → Type 0
  ReducedForm U L = Reduced L × Spans R L U
