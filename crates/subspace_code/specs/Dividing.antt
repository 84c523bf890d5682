-- What the call `divide` answers and writes, and what its parts leave.
--   divide_refusal   the lowest refusal that applies
--   DivideAnswer     what a call leaves in its outputs with its answer
--   Leading          the place of the divisor's last non-zero coefficient, its inverse, and raises that undo `place` raises
--   TakenOff         the remainder after B_i times c raised i times is taken off at p + i, for the first n places i
-- Assumes nothing.
use Rattle.std.specs.Prelude.{◌≡◌, ℕ, ◌+◌, ◌*◌, ◌<◌, ◌≤◌, ◌||◌, List, [], ◌∷◌, length, Some, None, Ok, Err, Option, Result, ◌==◌, nat_lt}
use Rattle.linear.specs.Field.{iterate}
use Rattle.field.specs.Alphabet.{Alphabet}
use Rattle.linearized.specs.Polynomials.{at, counted, Divided}
use Rattle.subspace_code.specs.declared.division.Lead.{Lead}
use Rattle.answer.specs.declared.refusal.Refusal.{Refusal}
use Rattle.answer.specs.declared.refusal.Refusal.TheVariants.{OutputShort, DivisorZero}
use Rattle.answer.specs.Refusals.{first_cause}

-- of the counted lengths of dividend and divisor, and the places of the outputs
abbrev pub divide_refusal : (dividend divisor quotient remainder : ℕ) → Option Refusal
divide_refusal dividend divisor quotient remainder =
    first_cause ((nat_lt quotient dividend || nat_lt remainder dividend, OutputShort) ∷ ((divisor == 0), DivisorZero) ∷ [])

module _ {K S : Type 0} (A : Alphabet K S) where
  open A use {symbols as G, frobenius}

  -- D by B; the outputs held f and R, and then g and T
  abbrev pub DivideAnswer : (D B f R g T : List S) → Result (ℕ × ℕ) Refusal → Type 0
  DivideAnswer D B f R g T (Ok (quotient, remainder)) =
      (divide_refusal (counted G D) (counted G B) (length f) (length R) ≡ None)
      × Divided A D B g T × (quotient ≡ counted G g) × (remainder ≡ counted G T)
  DivideAnswer D B f R g T (Err e) =
      (divide_refusal (counted G D) (counted G B) (length f) (length R) ≡ Some e) × (g ≡ f) × (T ≡ R)

  pub record Leading (B : List S) (lead : Lead S) : Type 0 where
    pub top : counted G B ≡ lead.place + 1
    pub inverts : lead.inverse ≡ G.inv (at G B lead.place)
    pub undoes : (j : ℕ) × (lead.place + lead.raises ≡ j * A.m)

  -- R before, T after
  pub record TakenOff (B R T : List S) (c : S) (p n : ℕ) : Type 0 where
    pub low : (k : ℕ) → k < p → at G T k ≡ at G R k
    pub taken : (i : ℕ) → i < n → at G T (p + i) ≡ G.add (at G R (p + i)) (G.neg (G.mul (at G B i) (iterate frobenius i c)))
    pub high : (k : ℕ) → p + n ≤ k → at G T k ≡ at G R k
