-- Octets as powers of 03: exponents of factors add up, modulo 255.
-- Assumes nothing.
use Rattle.std.proofs.Common.{◌≡◌, ℕ, ◌+◌, sym, refl, ap, ◌∙◌, ap₂, lit<}
use Rattle.binary.specs.Codes.{pow}
use Rattle.binary.specs.Products.{octet_product}
use Rattle.binary.proofs.Powers.{one-mul, pow_in, pow-add}
use Rattle.binary.proofs.Polynomials.{octets_binary}
use Rattle.binary.proofs.Tests.{computing}

cycle : pow octet_product 3 255 ≡ 1
unfolding computing
cycle = refl

around : (k : ℕ) → pow octet_product 3 (255 + k) ≡ pow octet_product 3 k
around k =
    sym (pow-add octets_binary.ring 3 (lit< tt) 255 k) ∙ ap (λ (a : ℕ). octet_product a (pow octet_product 3 k)) cycle
    ∙ one-mul octets_binary.ring (pow octet_product 3 k) (pow_in octets_binary.ring 3 (lit< tt) k)

module _ (a b i j : ℕ) (p : pow octet_product 3 i ≡ a) (q : pow octet_product 3 j ≡ b) where
  pub exponent_sum : (k : ℕ) → i + j ≡ k → pow octet_product 3 k ≡ octet_product a b
  exponent_sum k e = ap (pow octet_product 3) (sym e) ∙ sym (pow-add octets_binary.ring 3 (lit< tt) i j) ∙ ap₂ octet_product p q

  pub exponent_turned : (k : ℕ) → i + j ≡ 255 + k → pow octet_product 3 k ≡ octet_product a b
  exponent_turned k e = sym (around k) ∙ exponent_sum (255 + k) e

  pub exponent_one : i + j ≡ 255 → octet_product a b ≡ 1
  exponent_one e = sym (exponent_sum 255 e) ∙ cycle
