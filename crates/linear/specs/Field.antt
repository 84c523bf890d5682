-- Fields.
--   Field K        operations on K that make it a field, with the laws they keep
--   reciprocal F x the inverse of x: absent for zero and only there
--   power F x n    the product of n copies of x
--   iterate f n    f applied n times
-- Assumes nothing.
use Rattle.std.specs.Prelude.{◌≡◌, ℕ, zero as 0ₙ, suc, Some, None, Option}

pub record Field (K : Type 0) : Type 0 where
  pub zero : K
  pub one : K
  pub add : K → K → K
  pub neg : K → K
  pub mul : K → K → K
  pub inv : K → K
  pub add_assoc : (x y z : K) → add (add x y) z ≡ add x (add y z)
  pub add_comm : (x y : K) → add x y ≡ add y x
  pub add-zero : (x : K) → add x zero ≡ x
  pub add_neg : (x : K) → add x (neg x) ≡ zero
  pub mul_assoc : (x y z : K) → mul (mul x y) z ≡ mul x (mul y z)
  pub mul_comm : (x y : K) → mul x y ≡ mul y x
  pub mul_one : (x : K) → mul x one ≡ x
  pub mul_add : (x y z : K) → mul x (add y z) ≡ add (mul x y) (mul x z)
  pub mul_inv : (x : K) → ¬ (x ≡ zero) → mul x (inv x) ≡ one
  pub one_not_zero : ¬ (one ≡ zero)
  pub same? : (x y : K) → Dec (x ≡ y)

abbrev pub iterate : {A : Type 0} → (A → A) → ℕ → A → A
iterate f 0ₙ a = a
iterate f (suc n) a = f (iterate f n a)

module _ {K : Type 0} (F : Field K) where
  abbrev pub reciprocal_if : (x : K) → Dec (x ≡ F.zero) → Option K
  reciprocal_if x (yes is_zero) = None
  reciprocal_if x (no not_zero) = Some (F.inv x)

  abbrev pub reciprocal : K → Option K
  reciprocal x = reciprocal_if x (F.same? x F.zero)

  abbrev pub power : K → ℕ → K
  power x 0ₙ = F.one
  power x (suc n) = F.mul x (power x n)
