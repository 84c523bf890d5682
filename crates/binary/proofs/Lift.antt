-- A type whose values stand for the codes of a field is a field itself.
-- Assumes nothing.
use mathlib.Core.Path.{◌≡◌, refl, sym, ap, ap₂, ◌∙◌}
use mathlib.Core.Logic.{◌≢◌}
use Prim.Native.Nat.{ℕ, ◌-◌, ◌^◌, ◌<◌}
use native.Mathlib.Nat.{mod-eq_of_lt}
use native.Mathlib.Decide.{ℕ_discrete, map_dec}
use native.Mathlib.Omega.{arith}
use lib.Bits.{bit_xor}
use lib.Pow.{pow_pos}
use Rattle.linear.specs.Field.{Field}
use Rattle.binary.specs.Codes.{pow}
use Rattle.binary.specs.Binary.{Binary}
use Rattle.binary.specs.Coded.{Coded, ByCodes}
use Rattle.binary.proofs.Powers.{pow_in}

pub code_made : {X : Type 0} {size : ℕ} (C : Coded X size) (a : ℕ) → a < size → C.code (C.make a) ≡ a
code_made C a h = C.code_make a ∙ mod-eq_of_lt h

pub make_code : {X : Type 0} {size : ℕ} (C : Coded X size) (x : X) → C.make (C.code x) ≡ x
make_code C x = C.same (C.make (C.code x)) x (code_made C (C.code x) (C.code_less x))

module _ {X : Type 0} {n s m : ℕ} {mul : ℕ → ℕ → ℕ} (C : Coded X (2 ^ n)) (B : Binary n s m mul) where
  pub zero_is : C.code (C.make 0) ≡ 0
  zero_is = code_made C 0 (pow_pos n)

  pub one_is : C.code (C.make 1) ≡ 1
  one_is = code_made C 1 B.ring.one_in

  abbrev pub add : X → X → X
  add x y = C.make (bit_xor (C.code x) (C.code y))

  abbrev pub mult : X → X → X
  mult x y = C.make (mul (C.code x) (C.code y))

  pub add_is : (x y : X) → C.code (add x y) ≡ bit_xor (C.code x) (C.code y)
  add_is x y = code_made C (bit_xor (C.code x) (C.code y)) (B.ring.sum_in (C.code x) (C.code y) (C.code_less x) (C.code_less y))

  pub mul_is : (x y : X) → C.code (mult x y) ≡ mul (C.code x) (C.code y)
  mul_is x y = code_made C (mul (C.code x) (C.code y)) (B.ring.mul_in (C.code x) (C.code y) (C.code_less x) (C.code_less y))

  pub not_zero : (x : X) → ¬ (x ≡ C.make 0) → C.code x ≢ 0
  not_zero x q e = q (C.same x (C.make 0) (e ∙ sym zero_is))

  abbrev pub field_of : Field X
  field_of = record {
    zero = C.make 0;
    one = C.make 1;
    add = add;
    neg = λ x. x;
    mul = mult;
    inv = λ x. C.make (pow mul (C.code x) (2 ^ n - 2));
    add_assoc = λ x y z. C.same _ _
        (add_is (add x y) z ∙ ap (λ (a : ℕ). bit_xor a (C.code z)) (add_is x y) ∙ B.ring.sum_assoc (C.code x) (C.code y) (C.code z)
        ∙ sym (add_is x (add y z) ∙ ap (bit_xor (C.code x)) (add_is y z)));
    add_comm = λ x y. ap C.make (B.ring.sum_comm (C.code x) (C.code y));
    add-zero = λ x. C.same _ _ (add_is x (C.make 0) ∙ ap (bit_xor (C.code x)) zero_is ∙ B.ring.sum_zero (C.code x));
    add_neg = λ x. ap C.make (B.ring.sum_self (C.code x));
    mul_assoc = λ x y z. C.same _ _
        (mul_is (mult x y) z ∙ ap (λ (a : ℕ). mul a (C.code z)) (mul_is x y)
        ∙ B.ring.mul_assoc (C.code x) (C.code y) (C.code z) (C.code_less x) (C.code_less y) (C.code_less z)
        ∙ sym (mul_is x (mult y z) ∙ ap (mul (C.code x)) (mul_is y z)));
    mul_comm = λ x y. ap C.make (B.ring.mul_comm (C.code x) (C.code y) (C.code_less x) (C.code_less y));
    mul_one = λ x. C.same _ _ (mul_is x (C.make 1) ∙ ap (mul (C.code x)) one_is ∙ B.ring.mul_one (C.code x) (C.code_less x));
    mul_add = λ x y z. C.same _ _
        (mul_is x (add y z) ∙ ap (mul (C.code x)) (add_is y z)
        ∙ B.ring.mul_sum (C.code x) (C.code y) (C.code z) (C.code_less x) (C.code_less y) (C.code_less z)
        ∙ sym (add_is (mult x y) (mult x z) ∙ ap₂ bit_xor (mul_is x y) (mul_is x z)));
    mul_inv = λ x q. ap C.make
        (ap (mul (C.code x)) (code_made C (pow mul (C.code x) (2 ^ n - 2)) (pow_in B.ring (C.code x) (C.code_less x) (2 ^ n - 2)))
        ∙ B.inverse (C.code x) (C.code_less x) (not_zero x q));
    one_not_zero = λ e. let z : ◌≡◌ {A = ℕ} 1 0 = sym one_is ∙ ap C.code e ∙ zero_is in omega arith;
    same? = λ x y. map_dec (C.same x y) (ap C.code) (ℕ_discrete (C.code x) (C.code y));
  }

  pub field_by_codes : ByCodes C mul field_of
  field_by_codes = record { zero_code = zero_is; one_code = one_is; add_code = add_is; neg_code = λ x. refl; mul_code = mul_is }
