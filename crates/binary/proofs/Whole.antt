-- A ring of codes that passes the tests is a field.
-- Assumes nothing.
use mathlib.Core.Path.{◌≡◌, refl, sym, ap, ◌∙◌}
use mathlib.Core.Logic.{◌≢◌}
use Prim.Native.Nat.{ℕ, zero, suc, ◌+◌, ◌-◌, ◌*◌, ◌^◌, ◌≤◌, ◌<◌}
use native.Mathlib.Nat.{mod-lt, le_trans}
use native.Mathlib.Decide.{ℕ_discrete}
use native.Mathlib.Omega.{arith}
use lib.Bits.{bit_xor, xor_self}
use lib.Pow.{pow_pos, pow-lt, split}
use Rattle.linear.specs.Field.{iterate}
use Rattle.binary.specs.Codes.{pow, raise, digit}
use Rattle.binary.specs.Binary.{Ring, Binary}
use Rattle.binary.proofs.Sums.{scalars_within, xor_swap, digit_xor, digit_less}
use Rattle.binary.proofs.Maps.{adds_zero, agree, Additive, id_additive, sum_additive, pick_additive, shl_additive, shr_additive, additive_adds, iterate_linear}
use Rattle.binary.proofs.Powers.{sum_mul, mul-zero, zero-mul, pow_in, pow-add, power_raise, raise_linear, raise_power, raise_raise, raise_idempotent}
use Rattle.binary.proofs.Tests.{Tests, apply, clear}

apply_additive : (n : ℕ) (C : ℕ → ℕ) → Additive (apply n C)
unfolding apply
apply_additive n C = sum_additive n (λ i. pick_additive i (C i) id_additive)

clear_additive : (s : ℕ) → Additive (clear s)
unfolding clear
clear_additive s = shl_additive s (shr_additive s id_additive)

clear_zero : (s a : ℕ) → clear s a ≡ 0 → a < 2 ^ s
unfolding clear
clear_zero s a e = omega (arith, split a s, mod-lt a (pow_pos s))

module _ {n s m : ℕ} {mul : ℕ → ℕ → ℕ} (R : Ring n mul) {C : ℕ → ℕ} (t : Tests n s m mul C) where
  back : (a : ℕ) → a < 2 ^ n → iterate (raise mul s) m a ≡ a
  back = agree n (iterate (raise mul s) m) (λ a. a) (iterate_linear (raise_linear R s) m).adds (λ a b ha hb. refl) t.back

  certified : (a : ℕ) → a < 2 ^ n → apply n C (bit_xor (raise mul s a) a) ≡ clear s a
  certified =
      agree n (λ a. apply n C (bit_xor (raise mul s a) a)) (clear s)
      (λ a b ha hb.
      ap (apply n C) (ap (λ (x : ℕ). bit_xor x (bit_xor a b)) ((raise_linear R s).adds a b ha hb) ∙ xor_swap (raise mul s a) (raise mul s b) a b)
      ∙ (apply_additive n C).sums (bit_xor (raise mul s a) a) (bit_xor (raise mul s b) b))
      (additive_adds (clear_additive s) n) t.certificate

  fixed_scalar : (a : ℕ) → a < 2 ^ n → raise mul s a ≡ a → a < 2 ^ s
  fixed_scalar a h e =
      clear_zero s a
      (sym (certified a h) ∙ ap (apply n C) (ap (λ (x : ℕ). bit_xor x a) e ∙ xor_self a) ∙ adds_zero n (apply n C) (additive_adds (apply_additive n C) n))

  scalars_less : 2 ^ s ≤ 2 ^ n
  scalars_less = scalars_within n s m R.one_in t.size

  scalar_fixed : (a : ℕ) → a < 2 ^ s → raise mul s a ≡ a
  scalar_fixed =
      agree s (raise mul s) (λ a. a) (λ a b ha hb. (raise_linear R s).adds a b (le_trans ha scalars_less) (le_trans hb scalars_less)) (λ a b ha hb. refl)
      t.fixed

  -- a to the power 2 ^ n is a
  fermat : (a : ℕ) → a < 2 ^ n → mul a (mul a (pow mul a (2 ^ n - 2))) ≡ a
  unfolding pow
  fermat a h =
      ap (pow mul a) (let e : suc (suc (2 ^ n - 2)) ≡ 2 ^ n = omega (arith, R.one_in) in e)
      ∙ ap (λ (k : ℕ). pow mul a (2 ^ k)) t.size ∙ sym (raise_power R (s * m) a h) ∙ sym (raise_raise mul s m a) ∙ back a h

  -- a · b is idempotent, so that it is a scalar, 0 or 1
  module _ (a b : ℕ) (ha : a < 2 ^ n) (hb : b < 2 ^ n) (p : mul a (mul a b) ≡ a) where
    idempotent : mul (mul a b) (mul a b) ≡ mul a b
    idempotent =
        ap (λ (x : ℕ). mul x (mul a b)) (R.mul_comm a b ha hb)
        ∙ R.mul_assoc b a (mul a b) hb ha (R.mul_in a b ha hb) ∙ ap (mul b) p ∙ R.mul_comm b a hb ha

    zero_or_one : mul a b < 2
    zero_or_one = t.idempotent (mul a b) (fixed_scalar (mul a b) (R.mul_in a b ha hb) (raise_idempotent mul s (mul a b) idempotent)) idempotent

    unit : a ≢ 0 → mul a b ≡ 1
    unit q = not_zero (mul a b) zero_or_one p
      where
        not_zero : (e : ℕ) → e < 2 → mul a e ≡ a → e ≡ 1
        not_zero zero l r = absurd (q (sym r ∙ mul-zero R a ha))
        not_zero (suc zero) l r = refl
        not_zero (suc (suc e)) l r = absurd (omega arith)

  digit_basis : (i j a : ℕ) → i < m → j < s → a < 2 ^ n → digit s i (mul (2 ^ j) a) ≡ mul (2 ^ j) (digit s i a)
  digit_basis i j a hi hj =
      let c : 2 ^ j < 2 ^ n = le_trans (pow-lt hj) scalars_less in
      agree n (λ a. digit s i (mul (2 ^ j) a)) (λ a. mul (2 ^ j) (digit s i a))
      (λ a b ha hb. ap (digit s i) (R.mul_sum (2 ^ j) a b c ha hb) ∙ digit_xor s i (mul (2 ^ j) a) (mul (2 ^ j) b))
      (λ a b ha hb. ap (mul (2 ^ j)) (digit_xor s i a b) ∙ R.mul_sum (2 ^ j) (digit s i a) (digit s i b) c (digit_less s i n a ha) (digit_less s i n b hb))
      (λ k. t.scale i j k hi hj) a

  digit_mul : (i c a : ℕ) → i < m → c < 2 ^ s → a < 2 ^ n → digit s i (mul c a) ≡ mul c (digit s i a)
  digit_mul i c a hi hc ha =
      agree s (λ c. digit s i (mul c a)) (λ c. mul c (digit s i a))
      (λ b c hb hc. ap (digit s i) (sum_mul R b c a (le_trans hb scalars_less) (le_trans hc scalars_less) ha) ∙ digit_xor s i (mul b a) (mul c a))
      (λ b c hb hc. sum_mul R b c (digit s i a) (le_trans hb scalars_less) (le_trans hc scalars_less) (digit_less s i n a ha))
      (λ j hj. digit_basis i j a hi hj ha) c hc

  pub tested_binary : Binary n s m mul
  tested_binary = record {
    ring = R;
    size = t.size;
    inverse = λ a h. unit a (pow mul a (2 ^ n - 2)) h (pow_in R a h (2 ^ n - 2)) (fermat a h);
    raise_in = (raise_linear R s).stays;
    raise_power = raise_power R s;
    raise_sum = (raise_linear R s).adds;
    raise_back = back;
    fixed_scalar = fixed_scalar;
    scalar_fixed = scalar_fixed;
    digit_sum = digit_xor s;
    digit_mul = digit_mul;
  }

-- in a field only zero and one are their own squares
pub idempotent_small : {n s m : ℕ} {mul : ℕ → ℕ → ℕ} → Binary n s m mul → (e : ℕ) → e < 2 ^ n → mul e e ≡ e → e < 2
idempotent_small {n} {s} {m} {mul} B e h p =
    elim (ℕ_discrete e 0) [
      | yes z ↦ omega arith
      | no q ↦
          let v : ℕ = pow mul e (2 ^ n - 2) in
          let one : e ≡ 1 =
          sym (B.ring.mul_one e h) ∙ ap (mul e) (sym (B.inverse e h q)) ∙ sym (B.ring.mul_assoc e e v h h (pow_in B.ring e h (2 ^ n - 2)))
          ∙ ap (λ (x : ℕ). mul x v) p ∙ B.inverse e h q in
          omega arith
    ]

-- ---- powers in a field

module _ {n s m : ℕ} {mul : ℕ → ℕ → ℕ} (B : Binary n s m mul) (a : ℕ) (h : a < 2 ^ n) (q : a ≢ 0) where
  cancel : (b : ℕ) → b < 2 ^ n → mul a b ≡ 0 → b ≡ 0
  cancel b hb z =
      let v : ℕ = pow mul a (2 ^ n - 2) in
      let hv : v < 2 ^ n = pow_in B.ring a h (2 ^ n - 2) in
      sym (B.ring.mul_one b hb) ∙ ap (mul b) (sym (B.inverse a h q)) ∙ sym (B.ring.mul_assoc b a v hb h hv)
      ∙ ap (λ (x : ℕ). mul x v) (B.ring.mul_comm b a hb h ∙ z) ∙ zero-mul B.ring v hv

  pub power_not_zero : (k : ℕ) → pow mul a k ≢ 0
  unfolding pow
  power_not_zero zero e = omega arith
  power_not_zero (suc k) e = power_not_zero k (cancel (pow mul a k) (pow_in B.ring a h k) e)

  power_whole : pow mul a (2 ^ n - 1) ≡ 1
  unfolding pow
  power_whole = ap (pow mul a) (let e : 2 ^ n - 1 ≡ suc (2 ^ n - 2) = omega (arith, B.ring.one_in) in e) ∙ B.inverse a h q

  -- the power (2 ^ n - 1) / (2 ^ s - 1) is a scalar
  pub norm_scalar : (r : ℕ) → 2 ^ s * r ≡ r + (2 ^ n - 1) → pow mul a r < 2 ^ s
  norm_scalar r e =
      B.fixed_scalar (pow mul a r) (pow_in B.ring a h r)
      (power_raise B.ring a h (pow mul a r) s r refl ∙ ap (pow mul a) e ∙ sym (pow-add B.ring a h r (2 ^ n - 1))
      ∙ ap (mul (pow mul a r)) power_whole ∙ B.ring.mul_one (pow mul a r) (pow_in B.ring a h r))
