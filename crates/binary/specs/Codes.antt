-- Elements of a field of characteristic 2 as codes: a sum is the codes' exclusive or.
--   bit a i            the bit of a at the place i
--   pick b v           v if the bit b is set, else 0
--   sum n f            f 0 + .. + f (n - 1)
--   product n T a b    a times b, n-bit codes, where T i multiplies by the i-th basis element, the code 2 ^ i
--   times_x n tail b   x times b, polynomials modulo x ^ n + tail
--   pow mul a k        the product of k copies of a
--   square mul a       a times a
--   raise mul s a      a to the power 2 ^ s
--   digit s i a        the digit of a at the place i, in base 2 ^ s
-- Assumes nothing.
use Rattle.std.specs.Prelude.{ℕ, zero, suc, ◌-◌, ◌*◌, ◌/◌, ◌%◌, ◌^◌}
use Rattle.std.specs.Int.Bits.{bit_xor}
use Rattle.linear.specs.Field.{iterate}

unfoldable pub bit : ℕ → ℕ → ℕ
bit a i = a / 2 ^ i % 2

unfoldable pub pick : ℕ → ℕ → ℕ
pick zero v = zero
pick (suc b) v = v

unfoldable pub sum : ℕ → (ℕ → ℕ) → ℕ
sum zero f = zero
sum (suc n) f = bit_xor (sum n f) (f n)

unfoldable pub product : ℕ → (ℕ → ℕ → ℕ) → ℕ → ℕ → ℕ
product n T a b = sum n (λ i. pick (bit a i) (T i b))

unfoldable pub times_x : ℕ → ℕ → ℕ → ℕ
times_x n tail b = bit_xor (b * 2 % 2 ^ n) (pick (bit b (n - 1)) tail)

unfoldable pub pow : (ℕ → ℕ → ℕ) → ℕ → ℕ → ℕ
pow mul a zero = 1
pow mul a (suc k) = mul a (pow mul a k)

unfoldable pub square : (ℕ → ℕ → ℕ) → ℕ → ℕ
square mul a = mul a a

unfoldable pub raise : (ℕ → ℕ → ℕ) → ℕ → ℕ → ℕ
raise mul s a = iterate (square mul) s a

unfoldable pub digit : ℕ → ℕ → ℕ → ℕ
digit s i a = a / 2 ^ (s * i) % 2 ^ s
