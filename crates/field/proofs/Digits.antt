-- Digits in any base: they fix a number, and those from a place on are zero exactly below that power.
use Rattle.std.proofs.Common.{◌≡◌, ℕ, zero, suc, ◌+◌, ◌-◌, ◌*◌, ◌/◌, ◌%◌, ◌^◌, ◌<◌, ◌≤◌, sym, ap, ◌∙◌, subst, ap₂, mod-eq_of_lt, mul_comm, div-lt_iff_lt-mul, pow-suc, arith}
use native.Mathlib.Nat.{pow-zero, pow-le-pow_right, mod-one, div-eq_of_lt, zero-mod}
use lib.Arith.{mod-mul}

module _ (q : ℕ) (base : 0 < q) where
  pub power_positive : (k : ℕ) → 0 < q ^ k
  power_positive k = let h : q ^ 0 ≤ q ^ k = pow-le-pow_right base (omega arith) in omega (arith, pow-zero q)

  mod_step : (n k : ℕ) → n % q ^ suc k ≡ (n / q ^ k % q) * q ^ k + n % q ^ k
  mod_step n k = ap (λ p. n % p) (pow-suc q k ∙ mul_comm (q ^ k) q) ∙ mod-mul n base (power_positive k)

  digits_mod : (a b k : ℕ) → ((i : ℕ) → i < k → a / q ^ i % q ≡ b / q ^ i % q) → a % q ^ k ≡ b % q ^ k
  digits_mod a b zero h = ap (λ p. a % p) (pow-zero q) ∙ mod-one a ∙ sym (mod-one b) ∙ ap (λ p. b % p) (sym (pow-zero q))
  digits_mod a b (suc k) h =
      mod_step a k ∙ ap₂ (λ d r. d * q ^ k + r) (h k (omega arith)) (digits_mod a b k (λ i l. h i (omega arith))) ∙ sym (mod_step b k)

  pub digits_same : (a b k : ℕ) → a < q ^ k → b < q ^ k → ((i : ℕ) → i < k → a / q ^ i % q ≡ b / q ^ i % q) → a ≡ b
  digits_same a b k la lb h = sym (mod-eq_of_lt la) ∙ digits_mod a b k h ∙ mod-eq_of_lt lb

  pub digit_none : (n l i : ℕ) → n < q ^ l → l ≤ i → n / q ^ i % q ≡ 0
  digit_none n l i h k =
      let p : q ^ l ≤ q ^ i = pow-le-pow_right base k in
      let lt : n < q ^ i = omega arith in
      ap (λ d. d % q) (div-eq_of_lt lt) ∙ zero-mod q

  digits_less : (n l j : ℕ) → n < q ^ (j + l) → ((i : ℕ) → l ≤ i → i < j + l → n / q ^ i % q ≡ 0) → n < q ^ l
  digits_less n l zero h z = subst (λ k. n < q ^ k) (let e : 0 + l ≡ l = omega arith in e) h
  digits_less n l (suc j) h z =
      let step : q ^ (suc j + l) ≡ q * q ^ (j + l) = ap (λ k. q ^ k) (let e : suc j + l ≡ suc (j + l) = omega arith in e) ∙ pow-suc q (j + l) ∙ mul_comm (q ^ (j + l)) q in
      let top : n / q ^ (j + l) < q = (div-lt_iff_lt-mul (power_positive (j + l))).1 (subst (λ k. n < k) step h) in
      let none : n / q ^ (j + l) ≡ 0 = sym (mod-eq_of_lt top) ∙ z (j + l) (omega arith) (omega arith) in
      let small : n / q ^ (j + l) < 1 = omega arith in
      let less : n < 1 * q ^ (j + l) = (div-lt_iff_lt-mul (power_positive (j + l))).0 small in
      digits_less n l j (omega arith) (λ i a b. z i a (omega arith))

  -- n has k digits, of which those from l on are zero
  pub digits_below : (n l k : ℕ) → l ≤ k → n < q ^ k → ((i : ℕ) → l ≤ i → i < k → n / q ^ i % q ≡ 0) → n < q ^ l
  digits_below n l k h less z =
      let j = k - l in
      let e : j + l ≡ k = omega arith in
      digits_less n l j (subst (λ x. n < q ^ x) (sym e) less) (λ i a b. z i a (omega arith))
