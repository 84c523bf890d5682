-- Decoding: what is found on the way from the packets of a space to its message, and what is answered.
--   Candidate    f is the quotient of −Qx by Qy, for a pair that interpolates the space U of dimension r
--   Quotient     a candidate by its codes, or none where the pair has no part in y
--   Decodes      the message within ℓ − k of U is written, with what was lost and what is foreign; or there is none
-- Assumes nothing.
use Rattle.std.specs.Prelude.{◌≡◌, ℕ, List, length, Some, None, Option}
use Rattle.field.specs.Alphabet.{Alphabet}
use Rattle.packet.specs.declared.Packet.{Packet}
use Rattle.linearized.specs.Polynomials.{counted, Divided}
use Rattle.linearized.specs.Coefficients.{IsNegative}
use Rattle.linearized.specs.Interpolation.{τ, Interpolates}
use Rattle.linearized.specs.Distance.{Within}
use Rattle.answer.specs.declared.Solved.{Solved}
use Rattle.collector.specs.Answers.{SolveAnswer}
use Rattle.collector.specs.Interpolation.{room, polynomial}

module _ {K S : Type 0} (A : Alphabet K S) where
  pub record Candidate (k r : ℕ) (U : Packet S → Type 0) (f : List S) : Type 0 where
    pub Qx : List S
    pub Qy : List S
    pub interpolates : Interpolates A k (τ r k) U Qx Qy
    pub D : List S
    pub negative : IsNegative A.symbols Qx D
    pub R : List S
    pub divided : Divided A D Qy f R

  abbrev pub Quotient : (k r : ℕ) → (Packet S → Type 0) → Option (List ℕ) → Type 0
  Quotient k r U None = (Qx : List S) × (Qy : List S) × Interpolates A k (τ r k) U Qx Qy × (counted A.symbols Qy ≡ 0)
  Quotient k r U (Some codes) = (length codes ≡ room) × Candidate k r U (polynomial A codes)

  abbrev pub Decodes : (k ℓ : ℕ) → (Packet S → Type 0) → (r : ℕ) → (output written : List S) → Option Solved → Type 0
  Decodes k ℓ U r output written None = ((u : List S) → ¬ Within A k ℓ U u) × (written ≡ output)
  Decodes k ℓ U r output written (Some answer) = SolveAnswer A k ℓ U r output written answer
