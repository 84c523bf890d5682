-- The theorems of linear algebra, over every field and every kind of row.
--   DimUnique         a space has at most one dimension
--   DimExists         a span has a dimension
--   DimIndependent    the length of an independent list is the dimension of its span
--   DimReduced        so is the length of a reduced list, and the list is independent
--   DimMono           a span inside another has at most the dimension of the other
--   DimFull           and is the other if the dimensions are equal
--   DimWidth          a dimension is at most the width
--   DimAdding         one row more: the dimension rises by one if the row lies outside and only then, and else stays
--   SpanDecided       whether a row lies in a span is decided
--   ReducedExists     a span has a reduced form
--   ReducedUnique     and only one
--   SumSpanned        two lists together span the sum of their spans
--   MeetSpanned       what two spans share is a span
--   DimSumMeet       dim (U + W) + dim (U ∩ W) = dim U + dim W
--   KernelSpanned     the kernel of a linear map on a span is a span
--   ImageSpanned      the images of a list span the image of its span
--   RankNullity       the dimensions of kernel and image come to that of the span
-- Assumes nothing.
use Rattle.std.specs.Prelude.{◌≡◌, ℕ, ◌+◌, ◌≤◌, ◌↔◌, List, ◌∷◌, ◌++◌, map, length}
use Rattle.linear.specs.Field.{Field}
use Rattle.linear.specs.Rows.{Rows, RowLaws}
use Rattle.linear.specs.Span.{Span, Spans, SameSpan, Independent, IsDim, Sum, Meet}
use Rattle.linear.specs.Reduced.{Reduced, ReducedForm}
use Rattle.linear.specs.Maps.{Linear, Kernel, Image}

abbrev pub DimUnique : Type 0 → Type 0 → Type 0
DimUnique K V = (F : Field K) (R : Rows K V) → RowLaws F R → (L : List V) (d e : ℕ) → IsDim R (Span R L) d → IsDim R (Span R L) e → d ≡ e

abbrev pub DimExists : Type 0 → Type 0 → Type 0
DimExists K V = (F : Field K) (R : Rows K V) → RowLaws F R → (L : List V) → (d : ℕ) × IsDim R (Span R L) d

abbrev pub DimIndependent : Type 0 → Type 0 → Type 0
DimIndependent K V = (F : Field K) (R : Rows K V) → RowLaws F R → (L : List V) → Independent R F L → IsDim R (Span R L) (length L)

abbrev pub DimReduced : Type 0 → Type 0 → Type 0
DimReduced K V = (F : Field K) (R : Rows K V) → RowLaws F R → (L : List V) → Reduced F R L → Independent R F L × IsDim R (Span R L) (length L)

abbrev pub DimMono : Type 0 → Type 0 → Type 0
DimMono K V = (F : Field K) (R : Rows K V) → RowLaws F R → (L M : List V) (d e : ℕ) → ((v : V) → Span R L v → Span R M v) →
    IsDim R (Span R L) d → IsDim R (Span R M) e → d ≤ e

abbrev pub DimFull : Type 0 → Type 0 → Type 0
DimFull K V = (F : Field K) (R : Rows K V) → RowLaws F R → (L M : List V) (d : ℕ) → ((v : V) → Span R L v → Span R M v) →
    IsDim R (Span R L) d → IsDim R (Span R M) d → SameSpan R L M

abbrev pub DimWidth : Type 0 → Type 0 → Type 0
DimWidth K V = (F : Field K) (R : Rows K V) → RowLaws F R → (L : List V) (d : ℕ) → IsDim R (Span R L) d → d ≤ R.width

abbrev pub DimAdding : Type 0 → Type 0 → Type 0
DimAdding K V = (F : Field K) (R : Rows K V) → RowLaws F R → (L : List V) (v : V) (d : ℕ) → IsDim R (Span R L) d →
    (IsDim R (Span R (v ∷ L)) (d + 1) ↔ (¬ Span R L v)) × (IsDim R (Span R (v ∷ L)) d ↔ Span R L v)

abbrev pub SpanDecided : Type 0 → Type 0 → Type 0
SpanDecided K V = (F : Field K) (R : Rows K V) → RowLaws F R → (L : List V) (v : V) → Dec (Span R L v)

abbrev pub ReducedExists : Type 0 → Type 0 → Type 0
ReducedExists K V = (F : Field K) (R : Rows K V) → RowLaws F R → (L : List V) → (M : List V) × ReducedForm F R (Span R L) M

abbrev pub ReducedUnique : Type 0 → Type 0 → Type 0
ReducedUnique K V = (F : Field K) (R : Rows K V) → RowLaws F R → (L M N : List V) → ReducedForm F R (Span R L) M → ReducedForm F R (Span R L) N → M ≡ N

abbrev pub SumSpanned : Type 0 → Type 0 → Type 0
SumSpanned K V = (F : Field K) (R : Rows K V) → RowLaws F R → (L M : List V) → Spans R (L ++ M) (Sum R (Span R L) (Span R M))

abbrev pub MeetSpanned : Type 0 → Type 0 → Type 0
MeetSpanned K V = (F : Field K) (R : Rows K V) → RowLaws F R → (L M : List V) → (N : List V) × Spans R N (Meet R (Span R L) (Span R M))

abbrev pub DimSumMeet : Type 0 → Type 0 → Type 0
DimSumMeet K V = (F : Field K) (R : Rows K V) → RowLaws F R → (L M : List V) (a b s c : ℕ) → IsDim R (Span R L) a → IsDim R (Span R M) b →
    IsDim R (Sum R (Span R L) (Span R M)) s → IsDim R (Meet R (Span R L) (Span R M)) c → s + c ≡ a + b

-- the rows of kind R are mapped to rows of kind S
abbrev pub KernelSpanned : Type 0 → Type 0 → Type 0 → Type 0
KernelSpanned K V W = (F : Field K) (R : Rows K V) (S : Rows K W) → RowLaws F R → RowLaws F S → (L : List V) (f : V → W) →
    Linear R S (Span R L) f → (N : List V) × Spans R N (Kernel R S (Span R L) f)

abbrev pub ImageSpanned : Type 0 → Type 0 → Type 0 → Type 0
ImageSpanned K V W = (F : Field K) (R : Rows K V) (S : Rows K W) → RowLaws F R → RowLaws F S → (L : List V) (f : V → W) →
    Linear R S (Span R L) f → Spans S (map f L) (Image R S (Span R L) f)

abbrev pub RankNullity : Type 0 → Type 0 → Type 0 → Type 0
RankNullity K V W = (F : Field K) (R : Rows K V) (S : Rows K W) → RowLaws F R → RowLaws F S → (L : List V) (f : V → W) →
    Linear R S (Span R L) f → (d k r : ℕ) → IsDim R (Span R L) d → IsDim R (Kernel R S (Span R L) f) k → IsDim S (Image R S (Span R L) f) r → k + r ≡ d
