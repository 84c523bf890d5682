-- Leading places, which only row adding knows of.
--   FirstFrom v a p    p is the first place from a on at which v is not zero, or the width
--   Remains L v r      r is v less a row of the span of L, and zero wherever a row of L leads
--   Slot L p i         the first i rows of L lead before p, and the others do not
-- Assumes nothing.
use Rattle.std.specs.Prelude.{◌≡◌, ℕ, ◌<◌, ◌≤◌, List, length, slice_index_or}
use Rattle.linear.specs.Field.{Field}
use Rattle.linear.specs.Rows.{Rows}
use Rattle.linear.specs.Span.{Span}
use Rattle.linear.specs.Reduced.{Leads}

module _ {K V : Type 0} (F : Field K) (R : Rows K V) where
  pub record FirstFrom (v : V) (a p : ℕ) : Type 0 where
    pub low : a ≤ p
    pub high : p ≤ R.width
    pub before : (i : ℕ) → a ≤ i → i < p → R.coord v i ≡ F.zero
    pub some : p < R.width → ¬ (R.coord v p ≡ F.zero)

  pub record Remains (L : List V) (v r : V) : Type 0 where
    pub taken : V
    pub spans : Span R L taken
    pub sum : R.plus taken r ≡ v
    pub zeros : (i p : ℕ) → i < length L → Leads F R (slice_index_or L i R.none) p → R.coord r p ≡ F.zero

  pub record Slot (L : List V) (p i : ℕ) : Type 0 where
    pub within : i ≤ length L
    pub before : (j q : ℕ) → j < i → Leads F R (slice_index_or L j R.none) q → q < p
    pub after : (j q : ℕ) → i ≤ j → j < length L → Leads F R (slice_index_or L j R.none) q → p ≤ q
