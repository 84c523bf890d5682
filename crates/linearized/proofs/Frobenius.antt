-- The raise of a symbol field and the symbols of scalars: what the laws give.
use Rattle.std.proofs.Common.{◌≡◌, ℕ, zero as 0ₙ, suc, ◌+◌, ◌-◌, ◌*◌, ◌≤◌, sym, refl, ap, ◌∙◌, ap₂, suc-mul, suc-add, zero-add, zero-mul, le-mul_of_pos_right, arith}
use Rattle.linear.specs.Field.{iterate}
use Rattle.linear.proofs.Fields.{add_cancel, neg_unique}
use Rattle.field.specs.Alphabet.{Alphabet, Lawful}
use Rattle.linearized.proofs.Algebra.{power_mul}

-- one application more, at the inside
pub iterate_inside : {X : Type 0} (f : X → X) (n : ℕ) (x : X) → iterate f n (f x) ≡ f (iterate f n x)
iterate_inside f 0ₙ x = refl
iterate_inside f (suc n) x = ap f (iterate_inside f n x)

pub iterate_add : {X : Type 0} (f : X → X) (m n : ℕ) (x : X) → iterate f (m + n) x ≡ iterate f m (iterate f n x)
iterate_add f 0ₙ n x = ap (λ k. iterate f k x) (zero-add n)
iterate_add f (suc m) n x = ap (λ k. iterate f k x) (suc-add m n) ∙ ap f (iterate_add f m n x)

module _ {K S : Type 0} (A : Alphabet K S) where
  -- the a with a x = raise(x)
  abbrev pub ratio : S → S
  ratio x = A.symbols.mul (A.frobenius x) (A.symbols.inv x)

  -- how many raises undo e of them
  abbrev pub undoing : ℕ → ℕ
  undoing e = e * A.m - e

module _ {K S : Type 0} {A : Alphabet K S} (laws : Lawful A) where
  open A use {symbols as G, m, q, embed, frobenius}
  open G use {zero, add, neg, mul, inv}

  pub frobenius_mul : (x y : S) → frobenius (mul x y) ≡ mul (frobenius x) (frobenius y)
  frobenius_mul x y =
      laws.extension.frobenius_power (mul x y) ∙ power_mul G x y q
      ∙ ap₂ mul (sym (laws.extension.frobenius_power x)) (sym (laws.extension.frobenius_power y))

  pub frobenius_zero : frobenius zero ≡ zero
  frobenius_zero = add_cancel G (frobenius zero) (frobenius zero) (sym (laws.extension.frobenius_add zero zero) ∙ ap frobenius (G.add-zero zero))

  pub frobenius_neg : (x : S) → frobenius (neg x) ≡ neg (frobenius x)
  frobenius_neg x =
      neg_unique G (frobenius x) (frobenius (neg x)) (sym (laws.extension.frobenius_add x (neg x)) ∙ ap frobenius (G.add_neg x) ∙ frobenius_zero)

  pub frobenius_embed : (c : K) → frobenius (embed c) ≡ embed c
  frobenius_embed c = (laws.extension.frobenius_fixed (embed c)).1 (c, refl)

  pub frobenius_around : (j : ℕ) (x : S) → iterate frobenius (j * m) x ≡ x
  frobenius_around 0ₙ x = ap (λ k. iterate frobenius k x) (zero-mul m)
  frobenius_around (suc j) x =
      ap (λ k. iterate frobenius k x) (suc-mul j m) ∙ iterate_add frobenius (j * m) m x ∙ frobenius_around j (iterate frobenius m x) ∙ laws.extension.frobenius_back x

  -- e raises are undone by n more where e + n is a multiple of m
  pub frobenius_undone : (e n j : ℕ) → e + n ≡ j * m → (x : S) → iterate frobenius e (iterate frobenius n x) ≡ x
  frobenius_undone e n j h x = sym (iterate_add frobenius e n x) ∙ ap (λ k. iterate frobenius k x) h ∙ frobenius_around j x

  pub undoing_adds : (e : ℕ) → (e + undoing A e ≡ e * m) × (undoing A e + e ≡ e * m)
  undoing_adds e = let h : e ≤ e * m = le-mul_of_pos_right e laws.extension.one_coordinate in (omega arith, omega arith)

  pub iterate_frobenius_injective : (e : ℕ) (x y : S) → iterate frobenius e x ≡ iterate frobenius e y → x ≡ y
  iterate_frobenius_injective e x y h =
      let back = frobenius_undone (undoing A e) e e (undoing_adds e).1 in
      sym (back x) ∙ ap (iterate frobenius (undoing A e)) h ∙ back y

  pub frobenius_injective : (x y : S) → frobenius x ≡ frobenius y → x ≡ y
  frobenius_injective = iterate_frobenius_injective 1

  pub frobenius_not_zero : (x : S) → ¬ (x ≡ zero) → ¬ (frobenius x ≡ zero)
  frobenius_not_zero x h e = h (frobenius_injective x zero (e ∙ sym frobenius_zero))

  pub iterate_frobenius_zero : (n : ℕ) → iterate frobenius n zero ≡ zero
  iterate_frobenius_zero 0ₙ = refl
  iterate_frobenius_zero (suc n) = ap frobenius (iterate_frobenius_zero n) ∙ frobenius_zero

  pub iterate_frobenius_add : (n : ℕ) (x y : S) → iterate frobenius n (add x y) ≡ add (iterate frobenius n x) (iterate frobenius n y)
  iterate_frobenius_add 0ₙ x y = refl
  iterate_frobenius_add (suc n) x y = ap frobenius (iterate_frobenius_add n x y) ∙ laws.extension.frobenius_add _ _

  pub ratio_clears : (x : S) → ¬ (x ≡ zero) → mul (ratio A x) x ≡ frobenius x
  ratio_clears x h = G.mul_assoc _ _ _ ∙ ap (mul (frobenius x)) (G.mul_comm (inv x) x ∙ G.mul_inv x h) ∙ G.mul_one _
