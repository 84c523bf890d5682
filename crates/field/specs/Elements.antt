-- Elements of a field that computes by codes: what an element is, told by its code.
-- Assumes nothing.
use Rattle.std.specs.Prelude.{◌≡◌, ℕ, ◌<◌, ◌≢◌, Some, None, bit_xor, refl}
use Rattle.std.proofs.Common.{sym, ap, ◌∙◌}
use Rattle.linear.specs.Field.{Field, reciprocal, reciprocal_if}
use Rattle.binary.specs.Coded.{Coded, ByCodes}
use Rattle.binary.proofs.Lift.{code_made, make_code}
use Rattle.field.specs.Laws.{Codes}

module _ {X : Type 0} {size : ℕ} {C : Coded X size} {mul : ℕ → ℕ → ℕ} {F : Field X} (P : ByCodes C mul F) where
  pub codes : Codes F size C.code C.make
  codes = record {
    code_less = C.code_less;
    element_code = make_code C;
    code_element = code_made C;
    code_zero = P.zero_code;
    code_one = P.one_code;
  }

  pub is_zero : (r : X) → C.code r ≡ 0 → r ≡ F.zero
  is_zero r e = C.same r F.zero (e ∙ sym P.zero_code)

  pub is_one : (r : X) → C.code r ≡ 1 → r ≡ F.one
  is_one r e = C.same r F.one (e ∙ sym P.one_code)

  pub is_negative : (x : X) → x ≡ F.neg x
  is_negative x = C.same x (F.neg x) (sym (P.neg_code x))

  pub is_sum : (r x y : X) → C.code r ≡ bit_xor (C.code x) (C.code y) → r ≡ F.add x y
  is_sum r x y e = C.same r (F.add x y) (e ∙ sym (P.add_code x y))

  pub is_product : (r x y : X) → C.code r ≡ mul (C.code x) (C.code y) → r ≡ F.mul x y
  is_product r x y e = C.same r (F.mul x y) (e ∙ sym (P.mul_code x y))

  pub no_inverse : (x : X) → C.code x ≡ 0 → None ≡ reciprocal F x
  no_inverse x e = none (F.same? x F.zero)
    where
      none : (d : Dec (x ≡ F.zero)) → None ≡ reciprocal_if F x d
      none (yes z) = refl
      none (no q) = absurd (q (is_zero x e))

  -- what gives one when multiplied by x is the inverse of x
  pub is_inverse : (r x : X) (a : ℕ) → r ≡ C.make a → a < size → C.code x ≢ 0 → mul (C.code x) a ≡ 1 → Some r ≡ reciprocal F x
  is_inverse r x a p l q e = some (F.same? x F.zero)
    where
      one : F.mul x r ≡ F.one
      one = is_one (F.mul x r) (P.mul_code x r ∙ ap (mul (C.code x)) (ap C.code p ∙ code_made C a l) ∙ e)

      some : (d : Dec (x ≡ F.zero)) → Some r ≡ reciprocal_if F x d
      some (yes z) = absurd (q (ap C.code z ∙ P.zero_code))
      some (no n) = ap Some
          (sym (F.mul_one r) ∙ ap (F.mul r) (sym (F.mul_inv x n)) ∙ sym (F.mul_assoc r x (F.inv x))
          ∙ ap (λ (y : X). F.mul y (F.inv x)) (F.mul_comm r x ∙ one) ∙ F.mul_comm F.one (F.inv x) ∙ F.mul_one (F.inv x))
