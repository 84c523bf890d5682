-- Facts about a product at the codes 2 ^ i, each a test that is computed, from which a whole field follows.
-- Assumes nothing.
use mathlib.Core.Path.{◌≡◌, sym, subst}
use mathlib.Core.Bool.{Bool, true, false}
use Prim.Native.Nat.{ℕ, zero, suc, ◌*◌, ◌/◌, ◌^◌, ◌<◌}
use native.Mathlib.Nat.{not-suc-le-zero}
use native.Mathlib.Decide.{ℕ_discrete}
use native.Mathlib.Omega.{arith}
use lib.Bits.{bit_xor}
use lib.Dec.{T, eqb, ltb, eqb→eq, ltb→lt}
use Rattle.linear.specs.Field.{iterate}
use Rattle.binary.specs.Codes.{bit, pick, sum, product, times_x, pow, square, raise, digit}
use Rattle.binary.specs.Products.{modulo, bit_product, hex_product, octet_product, word_product, scale_x, times_z, nibble_product}

unfoldable pub both : Bool → Bool → Bool
both true b = b
both false b = false

-- the test holds of every number below k
unfoldable pub below : (ℕ → Bool) → ℕ → Bool
below f zero = true
below f (suc k) = both (f k) (below f k)

pub both_left : (a b : Bool) → T (both a b) → T a
unfolding both
both_left true b t = tt
both_left false b t = t

pub both_right : (a b : Bool) → T (both a b) → T b
unfolding both
both_right true b t = t
both_right false b t = absurd t

pub below_at : (f : ℕ → Bool) (k : ℕ) → T (below f k) → (i : ℕ) → i < k → T (f i)
unfolding below
below_at f zero t i h = absurd (not-suc-le-zero h)
below_at f (suc k) t i h =
    elim (ℕ_discrete i k) [
      | yes p ↦ subst (λ (x : ℕ). T (f x)) (sym p) (both_left (f k) (below f k) t)
      | no p ↦ below_at f k (both_right (f k) (below f k) t) i (omega arith)
    ]

-- two functions that are computed to agree at each number below k
pub computed : (f g : ℕ → ℕ) (k : ℕ) → T (below (λ i. eqb (f i) (g i)) k) → (i : ℕ) → i < k → f i ≡ g i
computed f g k t i h = eqb→eq (f i) (g i) (below_at (λ i. eqb (f i) (g i)) k t i h)

pub computed₂ : (f g : ℕ → ℕ → ℕ) (k l : ℕ) → T (below (λ i. below (λ j. eqb (f i j) (g i j)) l) k) → (i j : ℕ) → i < k → j < l → f i j ≡ g i j
computed₂ f g k l t i j h = computed (f i) (g i) l (below_at (λ i. below (λ j. eqb (f i j) (g i j)) l) k t i h) j

pub computed₃ : (f g : ℕ → ℕ → ℕ → ℕ) (k l m : ℕ) → T (below (λ i. below (λ j. below (λ o. eqb (f i j o) (g i j o)) m) l) k)
    → (i j o : ℕ) → i < k → j < l → o < m → f i j o ≡ g i j o
computed₃ f g k l m t i j o h = computed₂ (f i) (g i) l m (below_at (λ i. below (λ j. below (λ o. eqb (f i j o) (g i j o)) m) l) k t i h) j o

pub computed_less : (f : ℕ → ℕ) (b k : ℕ) → T (below (λ i. ltb (f i) b) k) → (i : ℕ) → i < k → f i < b
computed_less f b k t i h = ltb→lt (f i) b (below_at (λ i. ltb (f i) b) k t i h)

-- the linear map that takes 2 ^ i to C i
unfoldable pub apply : ℕ → (ℕ → ℕ) → ℕ → ℕ
apply n C a = sum n (λ i. pick (bit a i) (C i))

-- a without its s low bits
unfoldable pub clear : ℕ → ℕ → ℕ
clear s a = a / 2 ^ s * 2 ^ s

-- what a test computes with
unfoldable pub computing : ℕ
unfolding bit pick sum product times_x pow square raise digit modulo bit_product hex_product octet_product word_product scale_x times_z nibble_product both below apply clear
computing = 0

-- ---- the facts

-- C is a certificate: it takes what the raise adds to a, to a without its scalar part
pub record Tests (n s m : ℕ) (mul : ℕ → ℕ → ℕ) (C : ℕ → ℕ) : Type 0 where
  pub size : n ≡ s * m
  pub back : (i : ℕ) → i < n → iterate (raise mul s) m (2 ^ i) ≡ 2 ^ i
  pub certificate : (i : ℕ) → i < n → apply n C (bit_xor (raise mul s (2 ^ i)) (2 ^ i)) ≡ clear s (2 ^ i)
  pub fixed : (i : ℕ) → i < s → raise mul s (2 ^ i) ≡ 2 ^ i
  pub idempotent : (e : ℕ) → e < 2 ^ s → mul e e ≡ e → e < 2
  pub scale : (i j k : ℕ) → i < m → j < s → k < n → digit s i (mul (2 ^ j) (2 ^ k)) ≡ mul (2 ^ j) (digit s i (2 ^ k))
