-- Nibbles are a field over the hex digits.
-- Assumes nothing.
use mathlib.Core.Path.{◌≡◌, refl, sym, ap, ap₂, ◌∙◌}
use mathlib.Core.List.{List, [], ◌∷◌}
use native.Mathlib.Omega.{arith}
use Prim.Native.Nat.{ℕ, ◌+◌, ◌*◌, ◌/◌, ◌%◌, ◌^◌, ◌<◌}
use lib.Bits.{bit_xor}
use lib.Dec.{lit<, lit≤}
use lib.ListN.{get_or}
use Rattle.linear.specs.Field.{iterate}
use Rattle.binary.specs.Codes.{bit, pick, sum, product, raise, digit}
use Rattle.binary.specs.Binary.{Ring, Binary}
use Rattle.binary.specs.Products.{hex_product, nibble_product, scale_x, times_z, Modulus}
use Rattle.binary.proofs.Sums.{sum_same}
use Rattle.binary.proofs.Maps.{Linear, Additive, id_additive, xor_additive, sum_additive, shl_additive, mod_additive, digit_additive, times_x_additive, additive_linear, then_linear, agree}
use Rattle.binary.proofs.Bases.{two_basis, basis_ring}
use Rattle.binary.proofs.Powers.{products_agree}
use Rattle.binary.proofs.Steps.{product_short, product_digit}
use Rattle.binary.proofs.Tests.{apply, clear, computed, computed₂, computed₃, computed_less, computing}
use Rattle.binary.proofs.Whole.{tested_binary, idempotent_small}
use Rattle.binary.proofs.Polynomials.{hex_digits_binary}

scale_x_additive : Additive scale_x
unfolding scale_x
scale_x_additive = sum_additive 7 (λ i. shl_additive (4 * i) (times_x_additive 4 0x3 (digit_additive 4 i id_additive)))

times_z_additive : Additive times_z
unfolding times_z
times_z_additive =
    xor_additive (mod_additive 28 (shl_additive 4 id_additive)) (xor_additive (shl_additive 4 (digit_additive 4 6 id_additive)) (digit_additive 4 6 id_additive))

pub scale_x_linear : Linear 28 scale_x
unfolding computing
scale_x_linear = additive_linear 28 scale_x_additive (computed_less _ (2 ^ 28) 28 tt)

pub times_z_linear : Linear 28 times_z
unfolding computing
times_z_linear = additive_linear 28 times_z_additive (computed_less _ (2 ^ 28) 28 tt)

swaps : (i : ℕ) → i < 28 → scale_x (times_z (2 ^ i)) ≡ times_z (scale_x (2 ^ i))
unfolding computing
swaps = computed _ _ 28 tt

places : (i : ℕ) → i < 28 → iterate scale_x (i % 4) (iterate times_z (i / 4) 1) ≡ 2 ^ i
unfolding computing
places = computed _ _ 28 tt

nibble_ring : Ring 28 nibble_product
unfolding nibble_product
nibble_ring =
    basis_ring (two_basis scale_x_linear times_z_linear
    (agree 28 (λ b. scale_x (times_z b)) (λ b. times_z (scale_x b)) (then_linear scale_x_linear times_z_linear).adds (then_linear times_z_linear scale_x_linear).adds swaps)
    4 (lit< tt) places)

pub hex_digits_agree : (i j : ℕ) → i < 4 → j < 4 → nibble_product (2 ^ i) (2 ^ j) ≡ hex_product (2 ^ i) (2 ^ j)
unfolding computing
hex_digits_agree = computed₂ _ _ 4 4 tt

pub digits_agree : (a b : ℕ) → a < 2 ^ 4 → b < 2 ^ 4 → nibble_product a b ≡ hex_product a b
digits_agree = products_agree nibble_ring hex_digits_binary.ring (lit≤ tt) hex_digits_agree

-- the coefficients at z ^ i of what the certificate takes z ^ i to; it takes x ^ j z ^ i to x ^ j times that
certificate : List ℕ
certificate = 0x0 ∷ 0x10000 ∷ 0x110 ∷ 0x1010000 ∷ 0x10100 ∷ 0x1010 ∷ 0x1100110 ∷ []

back : (i : ℕ) → i < 28 → iterate (raise nibble_product 4) 7 (2 ^ i) ≡ 2 ^ i
unfolding computing
back = computed _ _ 28 tt

certified : (i : ℕ) → i < 28 → apply 28 (λ i. get_or certificate (i / 4) 0 * 2 ^ (i % 4)) (bit_xor (raise nibble_product 4 (2 ^ i)) (2 ^ i)) ≡ clear 4 (2 ^ i)
unfolding computing certificate
certified = computed _ _ 28 tt

fixed : (i : ℕ) → i < 4 → raise nibble_product 4 (2 ^ i) ≡ 2 ^ i
unfolding computing
fixed = computed _ _ 4 tt

scale : (i j k : ℕ) → i < 7 → j < 4 → k < 28 → digit 4 i (nibble_product (2 ^ j) (2 ^ k)) ≡ nibble_product (2 ^ j) (digit 4 i (2 ^ k))
unfolding computing
scale = computed₃ _ _ 7 4 28 tt

pub nibbles_binary : Binary 28 4 7 nibble_product
nibbles_binary =
    tested_binary nibble_ring {C = λ i. get_or certificate (i / 4) 0 * 2 ^ (i % 4)}
    (record {
      size = refl;
      back = back;
      certificate = certified;
      fixed = fixed;
      idempotent = λ e h p. idempotent_small hex_digits_binary e h (sym (digits_agree e e h h) ∙ p);
      scale = scale;
    })

-- ---- how the product is reached, digit by digit

abbrev pub place : ℕ → ℕ → ℕ
place i b = iterate scale_x (i % 4) (iterate times_z (i / 4) b)

place_at : (i j b : ℕ) → j < 4 → place (4 * i + j) b ≡ iterate scale_x j (iterate times_z i b)
place_at i j b l =
    let low : (4 * i + j) % 4 ≡ j = omega arith in
    let high : (4 * i + j) / 4 ≡ i = omega arith in
    ap₂ (λ (x y : ℕ). iterate scale_x x (iterate times_z y b)) low high

-- what the digit of a at the place i adds to the product
pub nibble_step : (i a b : ℕ) → bit_xor (product (4 * i) place a b) (product 4 (iterate scale_x) (digit 4 i a) (iterate times_z i b)) ≡ product (4 * (i + 1)) place a b
nibble_step i a b =
    product_digit place (iterate scale_x) (iterate times_z i) 4 i a b (λ j l. place_at i j b l) ∙ ap (λ (k : ℕ). product k place a b) (let e : 4 * i + 4 ≡ 4 * (i + 1) = omega arith in e)

-- the product with a digit
pub digit_product : (d b : ℕ) → d < 2 ^ 4 → product 4 (iterate scale_x) d b ≡ nibble_product d b
unfolding nibble_product product sum
digit_product d b h = sum_same 4 (λ j l. ap (pick (bit d j)) (sym (place_at 0 j b l))) ∙ product_short place d b 4 24 h

pub nibble_moduli : Modulus nibble_product 2 4 0x3 × Modulus nibble_product 16 7 0x11
unfolding computing
nibble_moduli = (record { places = computed _ _ 4 tt; reduces = refl }, record { places = computed _ _ 7 tt; reduces = refl })

pub nibble_places : (i : ℕ) → i < 28 → nibble_product (16 ^ (i / 4)) (2 ^ (i % 4)) ≡ 2 ^ i
unfolding computing
nibble_places = computed _ _ 28 tt
