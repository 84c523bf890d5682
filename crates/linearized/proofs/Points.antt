-- The point that a header stands for: linear in the header, and zero for the zero header only.
use Rattle.std.proofs.Common.{◌≡◌, ℕ, ◌^◌, ◌<◌, refl}
use Rattle.field.specs.Alphabet.{Alphabet}
use Rattle.linearized.specs.Code.{point}

module _ {K S : Type 0} (A : Alphabet K S) where
  pub point_add : (x y : S) → point A (A.symbols.add x y) ≡ A.symbols.add (point A x) (point A y)
  point_add x y = refl

  pub point_scalar : (c : K) (x : S) → point A (A.symbols.mul (A.embed c) x) ≡ A.symbols.mul (A.embed c) (point A x)
  point_scalar c x = refl

  pub point_zero : point A A.symbols.zero ≡ A.symbols.zero
  point_zero = refl

  pub point_zero_only : (ℓ : ℕ) (x : S) → A.code x < A.q ^ ℓ → point A x ≡ A.symbols.zero → x ≡ A.symbols.zero
  point_zero_only ℓ x below e = e
