-- Powers in a ring of codes: a square is additive, and so is each raise.
-- Assumes nothing.
use mathlib.Core.Path.{◌≡◌, refl, sym, ap, ap₂, ◌∙◌}
use Prim.Native.Nat.{ℕ, zero, suc, ◌+◌, ◌*◌, ◌^◌, ◌≤◌, ◌<◌}
use native.Mathlib.Nat.{le_trans, zero-add, suc-add, mul-suc, mul-zero as times_zero, zero-mul as zero_times, suc-mul, pow-suc}
use native.Mathlib.Omega.{arith}
use lib.Bits.{bit_xor}
use lib.Pow.{pow_pos, pow-lt}
use Rattle.linear.specs.Field.{iterate}
use Rattle.binary.specs.Codes.{pow, square, raise}
use Rattle.binary.specs.Binary.{Ring}
use Rattle.binary.proofs.Sums.{xor_swap}
use Rattle.binary.proofs.Maps.{Linear, adds_zero, agree, iterate_linear, iterate_add}

pub raise_raise : (mul : ℕ → ℕ → ℕ) (s k a : ℕ) → iterate (raise mul s) k a ≡ raise mul (s * k) a
unfolding raise
raise_raise mul s zero a = ap (λ (x : ℕ). raise mul x a) (sym (times_zero s))
raise_raise mul s (suc k) a =
    ap (raise mul s) (raise_raise mul s k a) ∙ iterate_add (square mul) s (s * k) a
    ∙ ap (λ (x : ℕ). raise mul x a) (omega (arith, mul-suc s k))

pub pow_iterate : (mul : ℕ → ℕ → ℕ) (a k : ℕ) → pow mul a k ≡ iterate (mul a) k 1
unfolding pow
pow_iterate mul a zero = refl
pow_iterate mul a (suc k) = ap (mul a) (pow_iterate mul a k)

-- what is its own square is its own raise
pub raise_idempotent : (mul : ℕ → ℕ → ℕ) (s e : ℕ) → mul e e ≡ e → raise mul s e ≡ e
unfolding raise square
raise_idempotent mul zero e p = refl
raise_idempotent mul (suc s) e p = ap (square mul) (raise_idempotent mul s e p) ∙ p

module _ {n : ℕ} {mul : ℕ → ℕ → ℕ} (R : Ring n mul) where
  pub mul_linear : (a : ℕ) → a < 2 ^ n → Linear n (mul a)
  mul_linear a h = record { stays = λ b. R.mul_in a b h; adds = λ b c. R.mul_sum a b c h }

  pub one-mul : (a : ℕ) → a < 2 ^ n → mul 1 a ≡ a
  one-mul a h = R.mul_comm 1 a R.one_in h ∙ R.mul_one a h

  pub mul-zero : (a : ℕ) → a < 2 ^ n → mul a 0 ≡ 0
  mul-zero a h = adds_zero n (mul a) (mul_linear a h).adds

  pub zero-mul : (a : ℕ) → a < 2 ^ n → mul 0 a ≡ 0
  zero-mul a h = R.mul_comm 0 a (pow_pos n) h ∙ mul-zero a h

  pub sum_mul : (a b c : ℕ) → a < 2 ^ n → b < 2 ^ n → c < 2 ^ n → mul (bit_xor a b) c ≡ bit_xor (mul a c) (mul b c)
  sum_mul a b c ha hb hc =
      R.mul_comm (bit_xor a b) c (R.sum_in a b ha hb) hc ∙ R.mul_sum c a b hc ha hb
      ∙ ap₂ bit_xor (R.mul_comm c a hc ha) (R.mul_comm c b hc hb)

  pub pow_in : (a : ℕ) → a < 2 ^ n → (k : ℕ) → pow mul a k < 2 ^ n
  unfolding pow
  pow_in a h zero = R.one_in
  pow_in a h (suc k) = R.mul_in a (pow mul a k) h (pow_in a h k)

  pub pow_one : (a : ℕ) → a < 2 ^ n → pow mul a 1 ≡ a
  unfolding pow
  pow_one a h = R.mul_one a h

  pub pow-add : (a : ℕ) → a < 2 ^ n → (i j : ℕ) → mul (pow mul a i) (pow mul a j) ≡ pow mul a (i + j)
  unfolding pow
  pow-add a h zero j = one-mul (pow mul a j) (pow_in a h j) ∙ ap (pow mul a) (sym (zero-add j))
  pow-add a h (suc i) j =
      R.mul_assoc a (pow mul a i) (pow mul a j) h (pow_in a h i) (pow_in a h j)
      ∙ ap (mul a) (pow-add a h i j) ∙ ap (pow mul a) (sym (suc-add i j))

  pub pow_times : (a : ℕ) → a < 2 ^ n → (k j : ℕ) → pow mul (pow mul a k) j ≡ pow mul a (j * k)
  unfolding pow
  pow_times a h k zero = ap (pow mul a) (sym (zero_times k))
  pow_times a h k (suc j) = ap (mul (pow mul a k)) (pow_times a h k j) ∙ pow-add a h k (j * k) ∙ ap (pow mul a) (omega (arith, suc-mul j k))

  square_linear : Linear n (square mul)
  unfolding square
  square_linear = record {
    stays = λ a h. R.mul_in a a h h;
    adds = λ a b ha hb.
        sum_mul a b (bit_xor a b) ha hb (R.sum_in a b ha hb)
        ∙ ap₂ bit_xor (R.mul_sum a a b ha ha hb) (R.mul_sum b a b hb ha hb ∙ R.sum_comm (mul b a) (mul b b))
        ∙ xor_swap (mul a a) (mul a b) (mul b b) (mul b a)
        ∙ ap (bit_xor (bit_xor (mul a a) (mul b b))) (ap (bit_xor (mul a b)) (R.mul_comm b a hb ha) ∙ R.sum_self (mul a b))
        ∙ R.sum_zero (bit_xor (mul a a) (mul b b));
  }

  pub raise_linear : (s : ℕ) → Linear n (raise mul s)
  unfolding raise
  raise_linear = iterate_linear square_linear

  -- s squares are the power 2 ^ s
  pub raise_power : (s a : ℕ) → a < 2 ^ n → raise mul s a ≡ pow mul a (2 ^ s)
  unfolding raise square
  raise_power zero a h = sym (pow_one a h)
  raise_power (suc s) a h =
      ap (λ (x : ℕ). mul x x) (raise_power s a h) ∙ pow-add a h (2 ^ s) (2 ^ s) ∙ ap (pow mul a) (omega (arith, pow-suc 2 s))

-- ---- elements that are powers of a

module _ {n : ℕ} {mul : ℕ → ℕ → ℕ} (R : Ring n mul) (a : ℕ) (h : a < 2 ^ n) where
  pub power_product : (x y j k : ℕ) → x ≡ pow mul a j → y ≡ pow mul a k → mul x y ≡ pow mul a (j + k)
  power_product x y j k p q = ap₂ mul p q ∙ pow-add R a h j k

  pub power_raise : (x s k : ℕ) → x ≡ pow mul a k → raise mul s x ≡ pow mul a (2 ^ s * k)
  power_raise x s k p = ap (raise mul s) p ∙ raise_power R s (pow mul a k) (pow_in R a h k) ∙ pow_times R a h k (2 ^ s)

-- two products that agree at the codes 2 ^ i agree on the codes of both
pub products_agree : {n s : ℕ} {mul mul' : ℕ → ℕ → ℕ} → Ring n mul → Ring s mul' → 2 ^ s ≤ 2 ^ n
    → ((i j : ℕ) → i < s → j < s → mul (2 ^ i) (2 ^ j) ≡ mul' (2 ^ i) (2 ^ j)) → (a b : ℕ) → a < 2 ^ s → b < 2 ^ s → mul a b ≡ mul' a b
products_agree {n} {s} {mul} {mul'} R Q le e a b ha hb =
    agree s (λ a. mul a b) (λ a. mul' a b)
    (λ x y hx hy. sum_mul R x y b (le_trans hx le) (le_trans hy le) (le_trans hb le)) (λ x y hx hy. sum_mul Q x y b hx hy hb)
    (λ i hi. agree s (mul (2 ^ i)) (mul' (2 ^ i))
    (λ x y hx hy. R.mul_sum (2 ^ i) x y (le_trans (pow-lt hi) le) (le_trans hx le) (le_trans hy le)) (λ x y. Q.mul_sum (2 ^ i) x y (pow-lt hi))
    (λ j. e i j hi) b hb) a ha
