-- Polynomials compared and combined coefficient by coefficient; zeros at the end of a list do not matter.
--   Same         two polynomials with equal coefficients
--   Null         every coefficient is zero
--   before       the coefficient before a place; zero before the first
--   IsSum        h is f + g
--   IsMultiple   h is c f
--   IsNegative   h is − f
--   IsComposed   h is B(f)
-- Assumes nothing.
use Rattle.std.specs.Prelude.{◌≡◌, ℕ, zero as 0ₙ, suc, List}
use Rattle.linear.specs.Field.{Field}
use Rattle.field.specs.Alphabet.{Alphabet}
use Rattle.linearized.specs.Polynomials.{at, composed}

module _ {S : Type 0} (G : Field S) where
  abbrev pub Same : List S → List S → Type 0
  Same f g = (n : ℕ) → at G f n ≡ at G g n

  abbrev pub Null : List S → Type 0
  Null f = (n : ℕ) → at G f n ≡ G.zero

  abbrev pub before : List S → ℕ → S
  before f 0ₙ = G.zero
  before f (suc n) = at G f n

  abbrev pub IsSum : List S → List S → List S → Type 0
  IsSum f g h = (n : ℕ) → at G h n ≡ G.add (at G f n) (at G g n)

  abbrev pub IsMultiple : S → List S → List S → Type 0
  IsMultiple c f h = (n : ℕ) → at G h n ≡ G.mul c (at G f n)

  abbrev pub IsNegative : List S → List S → Type 0
  IsNegative f h = (n : ℕ) → at G h n ≡ G.neg (at G f n)

module _ {K S : Type 0} (A : Alphabet K S) where
  abbrev pub IsComposed : List S → List S → List S → Type 0
  IsComposed B f h = (n : ℕ) → at A.symbols h n ≡ composed A B f n
