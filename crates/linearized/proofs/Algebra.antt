-- Field identities that the algebra of polynomials rests on.
use Rattle.std.proofs.Common.{◌≡◌, ℕ, zero as 0ₙ, suc, sym, ap, ◌∙◌, ap₂}
use Rattle.linear.specs.Field.{Field, power}
use Rattle.linear.proofs.Fields.{zero-add, neg_add, add_left_comm, mul_left_comm, one-mul, mul-zero, neg_unique, neg_mul, inv_mul}

module _ {K : Type 0} (F : Field K) where
  open F use {zero, one, add, neg, mul, inv}

  pub add_swap : (a b c d : K) → add (add a b) (add c d) ≡ add (add a c) (add b d)
  add_swap a b c d = simp (F.add_assoc, add_left_comm F)

  pub mul_swap : (a b c d : K) → mul (mul a b) (mul c d) ≡ mul (mul a c) (mul b d)
  mul_swap a b c d = simp (F.mul_assoc, mul_left_comm F)

  pub neg_add_cancel : (x y : K) → add (neg x) (add x y) ≡ y
  neg_add_cancel x y = sym (F.add_assoc (neg x) x y) ∙ ap (λ w. add w y) (neg_add F x) ∙ zero-add F y

  pub add_left_cancel : (x y z : K) → add x y ≡ add x z → y ≡ z
  add_left_cancel x y z e = sym (neg_add_cancel x y) ∙ ap (add (neg x)) e ∙ neg_add_cancel x z

  pub mul_cancel : (x y z : K) → ¬ (x ≡ zero) → mul x y ≡ mul x z → y ≡ z
  mul_cancel x y z h e = sym (inv_mul F x y h) ∙ ap (mul (inv x)) e ∙ inv_mul F x z h

  pub mul_inv_mul : (x y : K) → ¬ (x ≡ zero) → mul x (mul (inv x) y) ≡ y
  mul_inv_mul x y h = mul_left_comm F x (inv x) y ∙ inv_mul F x y h

  pub zero_product : (x y : K) → ¬ (x ≡ zero) → mul x y ≡ zero → y ≡ zero
  zero_product x y h e = mul_cancel x y zero h (e ∙ sym (mul-zero F x))

  pub mul_neg : (x y : K) → mul x (neg y) ≡ neg (mul x y)
  mul_neg x y = F.mul_comm x (neg y) ∙ neg_mul F y x ∙ ap neg (F.mul_comm y x)

  pub neg_one_mul : (x : K) → mul (neg one) x ≡ neg x
  neg_one_mul x = neg_mul F one x ∙ ap neg (one-mul F x)

  pub neg_sum : (x y : K) → neg (add x y) ≡ add (neg x) (neg y)
  neg_sum x y = sym (neg_unique F (add x y) (add (neg x) (neg y)) (add_swap x y (neg x) (neg y) ∙ ap₂ add (F.add_neg x) (F.add_neg y) ∙ F.add-zero zero))

  pub neg_zero : neg zero ≡ zero
  neg_zero = sym (neg_unique F zero zero (F.add-zero zero))

  pub neg_neg : (x : K) → neg (neg x) ≡ x
  neg_neg x = sym (neg_unique F (neg x) x (neg_add F x))

  pub difference_zero : (x y : K) → add x (neg y) ≡ zero → x ≡ y
  difference_zero x y e = sym (neg_neg x) ∙ ap neg (sym (neg_unique F x (neg y) e)) ∙ neg_neg y

  pub neg_not_zero : (x : K) → ¬ (x ≡ zero) → ¬ (neg x ≡ zero)
  neg_not_zero x h e = h (sym (F.add-zero x) ∙ ap (add x) (sym e) ∙ F.add_neg x)

  -- x and x less y, with y added back
  pub add_difference : (x y : K) → add y (add x (neg y)) ≡ x
  add_difference x y = add_left_comm F y x (neg y) ∙ ap (add x) (F.add_neg y) ∙ F.add-zero x

  pub power_mul : (x y : K) (n : ℕ) → power F (mul x y) n ≡ mul (power F x n) (power F y n)
  power_mul x y 0ₙ = sym (F.mul_one one)
  power_mul x y (suc n) = ap (mul (mul x y)) (power_mul x y n) ∙ mul_swap x y (power F x n) (power F y n)
