-- What follows from the laws of a symbol field: codes of the basis, elements of codes.
use Rattle.std.proofs.Common.{◌≡◌, ℕ, suc, ◌+◌, ◌*◌, ◌^◌, ◌<◌, ◌≤◌, Bool, true, false, cond, ltb, Some, None, sym, refl, ap, ◌∙◌, subst, mul-le-mul_left, pow-suc, add-one, arith, ltb-true, lt-ltb}
use native.Mathlib.Nat.{pow-zero, pow-le-pow_right}
use Rattle.field.specs.Laws.{of_code}
use Rattle.field.specs.Alphabet.{Alphabet, Lawful}

pub of_code_some : {X : Type 0} (size : ℕ) (element : ℕ → X) (n : ℕ) → n < size → of_code size element n ≡ Some (element n)
of_code_some size element n h = ap (λ b. cond b (Some (element n)) None) (lt-ltb n size h)

-- what a code that has an element tells
pub of_code_is : {X : Type 0} (size : ℕ) (element : ℕ → X) (n : ℕ) (x : X) → of_code size element n ≡ Some x → (n < size) × (x ≡ element n)
of_code_is size element n x = go (ltb n size) refl
  where
    go : (b : Bool) → ltb n size ≡ b → cond b (Some (element n)) None ≡ Some x → (n < size) × (x ≡ element n)
    go true t e = (ltb-true n size t, cc)
    go false t e = let z : ◌≡◌ {A = ℕ} 0 1 = cc in absurd (let y : ⊥ = omega arith in y)

pub power_step : (q i : ℕ) → q ^ (i + 1) ≡ q ^ i * q
power_step q i = ap (λ k. q ^ k) (add-one i) ∙ pow-suc q i

module _ {K S : Type 0} {A : Alphabet K S} (laws : Lawful A) where
  -- powers of q rise
  pub power_grows : (i j : ℕ) → i ≤ j → A.q ^ i ≤ A.q ^ j
  power_grows i j h = let p : 0 < A.q = omega (arith, laws.extension.two_scalars) in pow-le-pow_right p h

  pub power_rises : (i j : ℕ) → i < j → A.q ^ i < A.q ^ j
  power_rises i j h =
      let two = laws.extension.two_scalars in
      let more : A.q ^ i * 2 ≤ A.q ^ i * A.q = mul-le-mul_left (A.q ^ i) two in
      omega (arith, pow-zero A.q, power_grows 0 i (omega arith), power_grows (suc i) j h, pow-suc A.q i)

  pub power_limit : (i : ℕ) → i ≤ A.m → A.q ^ i ≤ 2 ^ 28
  power_limit i h = omega (arith, power_grows i A.m h, laws.extension.symbol_limit)

  -- q^i is the code of a symbol, for i below m
  pub basis_in : (i : ℕ) → i < A.m → A.q ^ i < A.size
  basis_in i h = subst (λ n. A.q ^ i < n) (sym laws.extension.symbol_count) (power_rises i A.m h)
