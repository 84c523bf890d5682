-- What each bit of a adds to the product of a and b, and each digit.
-- Assumes nothing.
use mathlib.Core.Path.{◌≡◌, refl, sym, ap, ap₂, ◌∙◌}
use mathlib.Core.Logic.{◌≢◌}
use Prim.Native.Nat.{ℕ, ◌+◌, ◌*◌, ◌/◌, ◌^◌, ◌≤◌, ◌<◌}
use native.Mathlib.Nat.{le_trans}
use native.Mathlib.Numerals.{add-one}
use native.Mathlib.Omega.{arith}
use lib.Bits.{bit_xor, bit_and, xor_zero_r, and_mask}
use lib.Pow.{pow_mono}
use Rattle.linear.specs.Field.{iterate}
use Rattle.binary.specs.Codes.{bit, pick, sum, product, digit}
use Rattle.binary.proofs.Sums.{bit_less, bit_none, bit_digit, sum_same, sum_split, sum_zero, sum_step}

pub iterate_step : (f : ℕ → ℕ) (k a : ℕ) → f (iterate f k a) ≡ iterate f (k + 1) a
iterate_step f k a = ap (λ (j : ℕ). iterate f j a) (sym (add-one k))

pub product_none : (T : ℕ → ℕ → ℕ) (a b : ℕ) → 0 ≡ product 0 T a b
unfolding product sum
product_none T a b = refl

-- the bits of a from k on add nothing if a has only k
pub product_short : (T : ℕ → ℕ → ℕ) (a b k l : ℕ) → a < 2 ^ k → product k T a b ≡ product (k + l) T a b
unfolding product pick
product_short T a b k l h =
    sym (xor_zero_r (product k T a b)) ∙ ap (bit_xor (product k T a b)) (sym (sum_zero l (λ j. pick (bit a (k + j)) (T (k + j) b)) none))
    ∙ sum_split k l (λ i. pick (bit a i) (T i b))
  where
    none : (j : ℕ) → j < l → pick (bit a (k + j)) (T (k + j) b) ≡ 0
    none j m = ap (λ (x : ℕ). pick x (T (k + j) b)) (bit_none a (k + j) (le_trans h (pow_mono (let e : k ≤ k + j = omega arith in e))))

-- the digits of a, s bits each, where the map at the place s i + j is that of j after U
pub product_digit : (T V : ℕ → ℕ → ℕ) (U : ℕ → ℕ) (s i a b : ℕ) → ((j : ℕ) → j < s → T (s * i + j) b ≡ V j (U b))
    → bit_xor (product (s * i) T a b) (product s V (digit s i a) (U b)) ≡ product (s * i + s) T a b
unfolding product
product_digit T V U s i a b e =
    ap (bit_xor (product (s * i) T a b)) (sum_same s (λ j l. ap₂ pick (bit_digit s i j a l) (sym (e j l))))
    ∙ sum_split (s * i) s (λ k. pick (bit a k) (T k b))

module _ (T : ℕ → ℕ → ℕ) (a b k : ℕ) where
  step : product (k + 1) T a b ≡ bit_xor (product k T a b) (pick (bit a k) (T k b))
  unfolding product
  step = sym (sum_step k (λ i. pick (bit a i) (T i b)))

  low_bit : bit_and (a / 2 ^ k) 1 ≡ bit a k
  unfolding bit
  low_bit = and_mask (a / 2 ^ k) 1

  pub product_taken : bit_and (a / 2 ^ k) 1 ≡ 1 → bit_xor (product k T a b) (T k b) ≡ product (k + 1) T a b
  unfolding pick
  product_taken h = sym (step ∙ ap (λ (x : ℕ). bit_xor (product k T a b) (pick x (T k b))) (sym low_bit ∙ h))

  pub product_left : bit_and (a / 2 ^ k) 1 ≢ 1 → product k T a b ≡ product (k + 1) T a b
  unfolding pick
  product_left h =
      let z : bit a k ≡ 0 = omega (arith, bit_less a k, low_bit) in
      sym (step ∙ ap (λ (x : ℕ). bit_xor (product k T a b) (pick x (T k b))) z ∙ xor_zero_r (product k T a b))
