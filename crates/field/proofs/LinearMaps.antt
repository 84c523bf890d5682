-- A linear map is the sum of its images of a code's digits, by one computed test of a table of them.
-- Assumes nothing.
use Rattle.std.proofs.Common.{◌≡◌, ℕ, ◌*◌, ◌^◌, ◌<◌, T, eqb, List, [], length, get_or, sym, ap, ◌∙◌}
use Rattle.binary.specs.Codes.{sum, digit}
use Rattle.binary.proofs.Sums.{digit_scalar, sum_same}
use Rattle.binary.proofs.Maps.{Adds, adds_digits}
use Rattle.binary.proofs.Tests.{below, computed₂}
use Rattle.field.specs.Images.{image_sum}

pub image_is : (n m : ℕ) (f : ℕ → ℕ) → Adds n f → n ≡ 2 * m → (a : ℕ) → a < 2 ^ n
    → (rows : List (List ℕ)) → length rows ≡ m → T (below (λ i. below (λ d. eqb (get_or (get_or rows i []) d 0) (f (d * 2 ^ (2 * i)))) 4) m) → image_sum rows a ≡ f a
unfolding image_sum
image_is n m f adds size a h rows len t =
    ap (λ (k : ℕ). sum k (λ i. get_or (get_or rows i []) (digit 2 i a) 0)) len
    ∙ sum_same m (λ i l. computed₂ (λ i d. get_or (get_or rows i []) d 0) (λ i d. f (d * 2 ^ (2 * i))) m 4 t i (digit 2 i a) l (digit_scalar 2 i a))
    ∙ sym (adds_digits n f adds 2 m a size h)
