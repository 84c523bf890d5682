-- The products of the fields.
--   modulo n tail         of polynomials over the bits, modulo x ^ n + tail; the bit i of a code stands for x ^ i
--   bit_product           of bits: modulo x + 1
--   hex_product           of hex digits: modulo x ^ 4 + x + 1
--   octet_product         of octets: modulo x ^ 8 + x ^ 4 + x ^ 3 + x + 1
--   word_product          of words: modulo x ^ 16 + x ^ 12 + x ^ 3 + x + 1
--   nibble_product        of nibbles, polynomials over the hex digits: modulo z ^ 7 + z + 1;
--                         the bit 4 i + j of a code stands for z ^ i x ^ j, so that the code's digits are the coefficients
--   scale_x, times_z      x times each coefficient of a nibble, and z times it
--   Modulus mul x n tail  under mul the first n powers of x are its places in a code, and the next is tail
-- Assumes nothing.
use Rattle.std.specs.Prelude.{◌≡◌, ℕ, ◌*◌, ◌/◌, ◌%◌, ◌^◌, ◌<◌}
use Rattle.std.specs.Int.Bits.{bit_xor}
use Rattle.linear.specs.Field.{iterate}
use Rattle.binary.specs.Codes.{sum, product, times_x, pow, digit}

unfoldable pub modulo : ℕ → ℕ → ℕ → ℕ → ℕ
modulo n tail = product n (iterate (times_x n tail))

unfoldable pub bit_product : ℕ → ℕ → ℕ
bit_product = modulo 1 1

unfoldable pub hex_product : ℕ → ℕ → ℕ
hex_product = modulo 4 0x3

unfoldable pub octet_product : ℕ → ℕ → ℕ
octet_product = modulo 8 0x1b

unfoldable pub word_product : ℕ → ℕ → ℕ
word_product = modulo 16 0x100b

unfoldable pub scale_x : ℕ → ℕ
scale_x b = sum 7 (λ i. times_x 4 0x3 (digit 4 i b) * 2 ^ (4 * i))

-- the coefficient of z ^ 6 goes to z ^ 7 = z + 1
unfoldable pub times_z : ℕ → ℕ
times_z b = bit_xor (b * 2 ^ 4 % 2 ^ 28) (bit_xor (digit 4 6 b * 2 ^ 4) (digit 4 6 b))

unfoldable pub nibble_product : ℕ → ℕ → ℕ
nibble_product = product 28 (λ i b. iterate scale_x (i % 4) (iterate times_z (i / 4) b))

pub record Modulus (mul : ℕ → ℕ → ℕ) (x n tail : ℕ) : Type 0 where
  pub places : (i : ℕ) → i < n → pow mul x i ≡ x ^ i
  pub reduces : pow mul x n ≡ tail
