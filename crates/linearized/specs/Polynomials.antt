-- Linearized polynomials: a list of symbols u stands for u_0 x + u_1 raise(x) + u_2 raise(raise(x)) + ...
--   total       the sum of h 0, h 1, .., h (n - 1)
--   at          the coefficient at a place; zero past the end
--   value       u at x: the sum over i of u_i times x raised i times
--   composed    the coefficient at n of B(f): the sum over i of B_i times f_(n - i) raised i times
--   counted     the length, counted to the last non-zero coefficient
--   Divided     A = B(f) + R coefficient by coefficient, R shorter than B
-- Assumes nothing.
use Rattle.std.specs.Prelude.{◌≡◌, ℕ, zero as 0ₙ, suc, ◌-◌, ◌<◌, List, [], ◌∷◌, length, slice_index_or}
use Rattle.linear.specs.Field.{Field, iterate}
use Rattle.field.specs.Alphabet.{Alphabet}

module _ {S : Type 0} (G : Field S) where
  abbrev pub total : (ℕ → S) → ℕ → S
  total h 0ₙ = G.zero
  total h (suc n) = G.add (total h n) (h n)

  abbrev pub at : List S → ℕ → S
  at u n = slice_index_or u n G.zero

  -- one coefficient before a list whose count is known
  abbrev pub counted_after : ℕ → {a : S} → Dec (a ≡ G.zero) → ℕ
  counted_after 0ₙ (yes is_zero) = 0
  counted_after 0ₙ (no not_zero) = 1
  counted_after (suc n) zero? = suc (suc n)

  abbrev pub counted : List S → ℕ
  counted [] = 0
  counted (a ∷ u) = counted_after (counted u) (G.same? a G.zero)

module _ {K S : Type 0} (A : Alphabet K S) where
  abbrev pub value : List S → S → S
  value u x = total A.symbols (λ i. A.symbols.mul (at A.symbols u i) (iterate A.frobenius i x)) (length u)

  abbrev pub composed : List S → List S → ℕ → S
  composed B f n = total A.symbols (λ i. A.symbols.mul (at A.symbols B i) (iterate A.frobenius i (at A.symbols f (n - i)))) (suc n)

  pub record Divided (D B f R : List S) : Type 0 where
    pub shorter : counted A.symbols R < counted A.symbols B
    pub whole : (n : ℕ) → at A.symbols D n ≡ A.symbols.add (composed B f n) (at A.symbols R n)
