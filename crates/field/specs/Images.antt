-- Linear maps of codes, by the images of the codes' digits in base 4.
--   image_sum rows a   the sum of the images of a's digits: the row i has the images of the digits 0, 1, 2 and 3 at the place i
-- Assumes nothing.
use Rattle.std.specs.Prelude.{ℕ, List, [], length, slice_index, slice_index_or}
use Rattle.binary.specs.Codes.{sum, digit}

unfoldable pub image_sum : List (List ℕ) → ℕ → ℕ
image_sum rows a = sum (length rows) (λ i. slice_index (slice_index_or rows i []) (digit 2 i a))
