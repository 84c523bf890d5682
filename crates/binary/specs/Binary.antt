-- Fields whose elements are n-bit codes.
--   Ring n mul         the n-bit codes are a ring under exclusive or and mul
--   Binary n s m mul   that ring is a field; its scalars are the codes below 2 ^ s,
--                      and each code has m digits that are scalars
-- Assumes nothing.
use Rattle.std.specs.Prelude.{◌≡◌, ◌≢◌, ℕ, ◌-◌, ◌*◌, ◌^◌, ◌<◌}
use Rattle.std.specs.Int.Bits.{bit_xor}
use Rattle.linear.specs.Field.{iterate}
use Rattle.binary.specs.Codes.{pow, raise, digit}

pub record Ring (n : ℕ) (mul : ℕ → ℕ → ℕ) : Type 0 where
  pub one_in : 1 < 2 ^ n
  pub sum_in : (a b : ℕ) → a < 2 ^ n → b < 2 ^ n → bit_xor a b < 2 ^ n
  pub sum_assoc : (a b c : ℕ) → bit_xor (bit_xor a b) c ≡ bit_xor a (bit_xor b c)
  pub sum_comm : (a b : ℕ) → bit_xor a b ≡ bit_xor b a
  pub sum_zero : (a : ℕ) → bit_xor a 0 ≡ a
  pub sum_self : (a : ℕ) → bit_xor a a ≡ 0
  pub mul_in : (a b : ℕ) → a < 2 ^ n → b < 2 ^ n → mul a b < 2 ^ n
  pub mul_assoc : (a b c : ℕ) → a < 2 ^ n → b < 2 ^ n → c < 2 ^ n → mul (mul a b) c ≡ mul a (mul b c)
  pub mul_comm : (a b : ℕ) → a < 2 ^ n → b < 2 ^ n → mul a b ≡ mul b a
  pub mul_one : (a : ℕ) → a < 2 ^ n → mul a 1 ≡ a
  pub mul_sum : (a b c : ℕ) → a < 2 ^ n → b < 2 ^ n → c < 2 ^ n → mul a (bit_xor b c) ≡ bit_xor (mul a b) (mul a c)

pub record Binary (n s m : ℕ) (mul : ℕ → ℕ → ℕ) : Type 0 where
  pub ring : Ring n mul
  pub size : n ≡ s * m
  pub inverse : (a : ℕ) → a < 2 ^ n → a ≢ 0 → mul a (pow mul a (2 ^ n - 2)) ≡ 1
  pub raise_in : (a : ℕ) → a < 2 ^ n → raise mul s a < 2 ^ n
  pub raise_power : (a : ℕ) → a < 2 ^ n → raise mul s a ≡ pow mul a (2 ^ s)
  pub raise_sum : (a b : ℕ) → a < 2 ^ n → b < 2 ^ n → raise mul s (bit_xor a b) ≡ bit_xor (raise mul s a) (raise mul s b)
  pub raise_back : (a : ℕ) → a < 2 ^ n → iterate (raise mul s) m a ≡ a
  pub fixed_scalar : (a : ℕ) → a < 2 ^ n → raise mul s a ≡ a → a < 2 ^ s
  pub scalar_fixed : (a : ℕ) → a < 2 ^ s → raise mul s a ≡ a
  pub digit_sum : (i a b : ℕ) → digit s i (bit_xor a b) ≡ bit_xor (digit s i a) (digit s i b)
  pub digit_mul : (i c a : ℕ) → i < m → c < 2 ^ s → a < 2 ^ n → digit s i (mul c a) ≡ mul c (digit s i a)
