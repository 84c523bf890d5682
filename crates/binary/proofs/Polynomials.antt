-- Polynomials over the bits modulo x ^ n + tail, where the tests pass, are a field; the fields that are made so.
-- Assumes nothing.
use mathlib.Core.Path.{◌≡◌, refl, sym, ap, ◌∙◌}
use mathlib.Core.List.{List, [], ◌∷◌}
use Prim.Native.Nat.{ℕ, zero, suc, ◌^◌, ◌<◌}
use native.Mathlib.Nat.{one-mul as one_times, not-suc-le-zero, le_of_suc-le-suc}
use lib.Bits.{bit_xor, bit_and}
use lib.Dec.{lit<}
use lib.ListN.{get_or}
use lib.Pow.{pow-lt}
use Rattle.linear.specs.Field.{iterate}
use Rattle.binary.specs.Codes.{raise, digit}
use Rattle.binary.specs.Binary.{Ring, Binary}
use Rattle.binary.specs.Products.{modulo, bit_product, hex_product, octet_product, word_product, Modulus}
use Rattle.binary.proofs.Sums.{digit_less}
use Rattle.binary.proofs.Bases.{x_basis, basis_ring}
use Rattle.binary.proofs.Powers.{one-mul, raise_idempotent}
use Rattle.binary.proofs.Tests.{apply, clear, computed, computed₂, computing}
use Rattle.binary.proofs.Whole.{tested_binary}

module _ (n tail : ℕ) (some : 0 < n) (h : tail < 2 ^ n) where
  pub polynomial_ring : Ring n (modulo n tail)
  unfolding modulo
  polynomial_ring = basis_ring (x_basis n tail some h)

  pub polynomial_binary : (C : ℕ → ℕ) → ((i : ℕ) → i < n → iterate (raise (modulo n tail) 1) n (2 ^ i) ≡ 2 ^ i)
      → ((i : ℕ) → i < n → apply n C (bit_xor (raise (modulo n tail) 1 (2 ^ i)) (2 ^ i)) ≡ clear 1 (2 ^ i)) → Binary n 1 n (modulo n tail)
  polynomial_binary C back certificate =
      tested_binary polynomial_ring {C = C}
      (record {
        size = sym (one_times n);
        back = back;
        certificate = certificate;
        fixed = fixed;
        idempotent = λ e l p. l;
        scale = scale;
      })
    where
      fixed : (i : ℕ) → i < 1 → raise (modulo n tail) 1 (2 ^ i) ≡ 2 ^ i
      fixed zero l = raise_idempotent (modulo n tail) 1 1 (polynomial_ring.mul_one 1 polynomial_ring.one_in)
      fixed (suc i) l = absurd (not-suc-le-zero (le_of_suc-le-suc l))

      scale : (i j k : ℕ) → i < n → j < 1 → k < n → digit 1 i (modulo n tail (2 ^ j) (2 ^ k)) ≡ modulo n tail (2 ^ j) (digit 1 i (2 ^ k))
      scale i zero k hi hj hk =
          ap (digit 1 i) (one-mul polynomial_ring (2 ^ k) (pow-lt hk)) ∙ sym (one-mul polynomial_ring (digit 1 i (2 ^ k)) (digit_less 1 i n (2 ^ k) (pow-lt hk)))
      scale i (suc j) k hi hj hk = absurd (not-suc-le-zero (le_of_suc-le-suc hj))

pub bits_binary : Binary 1 1 1 bit_product
unfolding computing
bits_binary = polynomial_binary 1 1 (lit< tt) (lit< tt) (λ i. 0) (computed _ _ 1 tt) (computed _ _ 1 tt)

pub bit_product_and : (a b : ℕ) → a < 2 → b < 2 → bit_and a b ≡ bit_product a b
unfolding computing
bit_product_and = computed₂ _ _ 2 2 tt

hex_certificate : List ℕ
hex_certificate = 6 ∷ 10 ∷ 8 ∷ 0 ∷ []

pub hex_digits_binary : Binary 4 1 4 hex_product
unfolding computing hex_certificate
hex_digits_binary = polynomial_binary 4 0x3 (lit< tt) (lit< tt) (λ i. get_or hex_certificate i 0) (computed _ _ 4 tt) (computed _ _ 4 tt)

pub hex_modulus : Modulus hex_product 2 4 0x3
unfolding computing
hex_modulus = record { places = computed _ _ 4 tt; reduces = refl }

octet_certificate : List ℕ
octet_certificate = 188 ∷ 42 ∷ 40 ∷ 134 ∷ 44 ∷ 0 ∷ 142 ∷ 222 ∷ []

pub octets_binary : Binary 8 1 8 octet_product
unfolding computing octet_certificate
octets_binary = polynomial_binary 8 0x1b (lit< tt) (lit< tt) (λ i. get_or octet_certificate i 0) (computed _ _ 8 tt) (computed _ _ 8 tt)

pub octet_modulus : Modulus octet_product 2 8 0x1b
unfolding computing
octet_modulus = record { places = computed _ _ 8 tt; reduces = refl }

word_certificate : List ℕ
word_certificate =
    350 ∷ 42420 ∷ 42422 ∷ 7412 ∷ 42418 ∷ 10272 ∷ 7420 ∷ 1328 ∷ 42402 ∷ 38610 ∷ 10240 ∷ 5068 ∷ 7356 ∷ 0 ∷ 1456 ∷ 21936 ∷ []

pub words_binary : Binary 16 1 16 word_product
unfolding computing word_certificate
words_binary = polynomial_binary 16 0x100b (lit< tt) (lit< tt) (λ i. get_or word_certificate i 0) (computed _ _ 16 tt) (computed _ _ 16 tt)

pub word_modulus : Modulus word_product 2 16 0x100b
unfolding computing
word_modulus = record { places = computed _ _ 16 tt; reduces = refl }
