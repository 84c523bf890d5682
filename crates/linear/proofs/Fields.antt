-- What the laws of a field give.
use Rattle.std.proofs.Common.{◌≡◌, ℕ, Some, None, sym, ap, ◌∙◌, ap₂, arith}
use Rattle.linear.specs.Field.{Field, reciprocal, reciprocal_if}

module _ {K : Type 0} (F : Field K) where
  open F use {zero, one, add, neg, mul, inv}

  pub zero-add : (x : K) → add zero x ≡ x
  zero-add x = F.add_comm zero x ∙ F.add-zero x

  pub neg_add : (x : K) → add (neg x) x ≡ zero
  neg_add x = F.add_comm (neg x) x ∙ F.add_neg x

  pub add_left_comm : (x y z : K) → add x (add y z) ≡ add y (add x z)
  add_left_comm x y z = sym (F.add_assoc x y z) ∙ ap (λ w. add w z) (F.add_comm x y) ∙ F.add_assoc y x z

  pub mul_left_comm : (x y z : K) → mul x (mul y z) ≡ mul y (mul x z)
  mul_left_comm x y z = sym (F.mul_assoc x y z) ∙ ap (λ w. mul w z) (F.mul_comm x y) ∙ F.mul_assoc y x z

  pub one-mul : (x : K) → mul one x ≡ x
  one-mul x = F.mul_comm one x ∙ F.mul_one x

  pub add_mul : (x y z : K) → mul (add x y) z ≡ add (mul x z) (mul y z)
  add_mul x y z = F.mul_comm (add x y) z ∙ F.mul_add z x y ∙ ap₂ add (F.mul_comm z x) (F.mul_comm z y)

  -- x + y = 0 makes y the negative of x
  pub neg_unique : (x y : K) → add x y ≡ zero → y ≡ neg x
  neg_unique x y e = sym (zero-add y) ∙ ap (λ w. add w y) (sym (neg_add x)) ∙ F.add_assoc (neg x) x y ∙ ap (add (neg x)) e ∙ F.add-zero (neg x)

  pub add_cancel : (x y : K) → add x y ≡ x → y ≡ zero
  add_cancel x y e = sym (zero-add y) ∙ ap (λ w. add w y) (sym (neg_add x)) ∙ F.add_assoc (neg x) x y ∙ ap (add (neg x)) e ∙ neg_add x

  pub mul-zero : (x : K) → mul x zero ≡ zero
  mul-zero x = add_cancel (mul x zero) (mul x zero) (sym (F.mul_add x zero zero) ∙ ap (mul x) (F.add-zero zero))

  pub zero-mul : (x : K) → mul zero x ≡ zero
  zero-mul x = F.mul_comm zero x ∙ mul-zero x

  pub neg_mul : (x y : K) → mul (neg x) y ≡ neg (mul x y)
  neg_mul x y = neg_unique (mul x y) (mul (neg x) y) (sym (add_mul x (neg x) y) ∙ ap (λ w. mul w y) (F.add_neg x) ∙ zero-mul y)

  pub neg_one_not_zero : ¬ (neg one ≡ zero)
  neg_one_not_zero e = F.one_not_zero (sym (F.add-zero one) ∙ ap (add one) (sym e) ∙ F.add_neg one)

  pub inv_mul : (x y : K) → ¬ (x ≡ zero) → mul (inv x) (mul x y) ≡ y
  inv_mul x y h = sym (F.mul_assoc (inv x) x y) ∙ ap (λ w. mul w y) (F.mul_comm (inv x) x ∙ F.mul_inv x h) ∙ one-mul y

  -- sums of the form c x + w, as rows have them at each coordinate
  pub term_add : (c d x w u : K) → add (add (mul c x) w) (add (mul d x) u) ≡ add (mul (add c d) x) (add w u)
  term_add c d x w u = simp (add_mul, F.add_assoc, add_left_comm, F.add_comm)

  pub term_mul : (k c x w : K) → mul k (add (mul c x) w) ≡ add (mul (mul k c) x) (mul k w)
  term_mul k c x w = simp (F.mul_add, F.mul_assoc)

  pub term_solve : (c x w : K) → ¬ (c ≡ zero) → add (mul (inv c) (add (mul c x) w)) (mul (neg (inv c)) w) ≡ x
  term_solve c x w h = rw (F.mul_add, inv_mul, neg_mul, F.add_assoc, F.add_neg, F.add-zero)

  pub minus_back : (c x y : K) → add (mul c y) (add x (mul (neg c) y)) ≡ x
  minus_back c x y = rw (add_left_comm, neg_mul, F.add_neg, F.add-zero)

  pub minus_sum : (x y : K) → add (add x y) (mul (neg one) x) ≡ y
  minus_sum x y = rw (F.add_comm x y, neg_mul, one-mul, F.add_assoc, F.add_neg, F.add-zero)

  -- c y + w = c (y − x) + (w + c x)
  pub term_shift : (c x y w : K) → add (mul c y) w ≡ add (mul c (add y (mul (neg one) x))) (add w (mul c x))
  term_shift c x y w =
      sym (rw (F.mul_add, mul_left_comm c (neg one) x, neg_mul, one-mul, F.add_assoc, add_left_comm (neg (mul c x)) w (mul c x), neg_add, F.add-zero))

  -- a reciprocal is absent of zero only
  pub reciprocal_none : (x : K) → reciprocal F x ≡ None → x ≡ zero
  reciprocal_none x = go (F.same? x zero)
    where
      go : (d : Dec (x ≡ zero)) → reciprocal_if F x d ≡ None → x ≡ zero
      go (yes z) e = z
      go (no z) e = let c : ◌≡◌ {A = ℕ} 0 1 = cc in absurd (let b : ⊥ = omega arith in b)

  pub reciprocal_some : (x y : K) → reciprocal F x ≡ Some y → (¬ (x ≡ zero)) × (y ≡ inv x)
  reciprocal_some x y = go (F.same? x zero)
    where
      go : (d : Dec (x ≡ zero)) → reciprocal_if F x d ≡ Some y → (¬ (x ≡ zero)) × (y ≡ inv x)
      go (yes z) e = let c : ◌≡◌ {A = ℕ} 0 1 = cc in absurd (let b : ⊥ = omega arith in b)
      go (no z) e = (z, cc)
