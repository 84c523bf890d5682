-- Long division from the top, one quotient coefficient at a time, and what each step keeps.
--   Dividing       where the division of D by B stands, B's last non-zero coefficient being at e: the quotient's
--                  coefficients from p on are found, and the remainder R has none from p + e on
--   DivisionStep   the quotient's coefficient at p is found, and its part of B(f) is taken off the remainder
-- Assumes nothing.
use Rattle.std.specs.Prelude.{◌≡◌, ℕ, ◌+◌, ◌<◌, ◌≤◌, List}
use Rattle.linear.specs.Field.{iterate}
use Rattle.field.specs.Alphabet.{Alphabet}
use Rattle.linearized.specs.Polynomials.{at, composed}

module _ {K S : Type 0} (A : Alphabet K S) where
  open A use {symbols as G, frobenius}

  pub record Dividing (D B f R : List S) (e p : ℕ) : Type 0 where
    pub unfound : (n : ℕ) → n < p → at G f n ≡ G.zero
    pub cleared : (n : ℕ) → p + e ≤ n → at G R n ≡ G.zero
    pub whole : (n : ℕ) → at G D n ≡ G.add (composed A B f n) (at G R n)

  -- f and R before, g and T after
  pub record DivisionStep (B f R g T : List S) (e p : ℕ) : Type 0 where
    pub coefficient : S
    pub cancels : G.mul (at G B e) (iterate frobenius e coefficient) ≡ at G R (p + e)
    pub placed : at G g p ≡ coefficient
    pub others : (n : ℕ) → ¬ (n ≡ p) → at G g n ≡ at G f n
    pub low : (n : ℕ) → n < p → at G T n ≡ at G R n
    pub taken : (i : ℕ) → i ≤ e →
        at G T (p + i) ≡ G.add (at G R (p + i)) (G.neg (G.mul (at G B i) (iterate frobenius i coefficient)))
    pub high : (n : ℕ) → p + e < n → at G T n ≡ at G R n
