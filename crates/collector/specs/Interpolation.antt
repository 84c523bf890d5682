-- Interpolation by codes: what the code's pairs and states hold, in the words of linearized polynomials.
--   room           how many coefficients a polynomial of a pair has room for
--   members        a symbol field's own members, from its alphabet
--   polynomial     the polynomial whose coefficients a list of codes holds
--   mixed          the coefficients of a f + b g
--   shifted        the coefficients of raise(f) + c f
--   Weighted       a pair of polynomials with its weighted degree
--   Mixes          T is a P + b Q
--   FirstMoves     whether the first pair is raised, by the two values and degrees: of the pairs that do not vanish
--                  it has the smaller degree
-- Assumes nothing.
use Rattle.std.specs.Prelude.{◌≡◌, ℕ, ◌<◌, ◌≤◌, Bool, true, false, ◌⊎◌, List, map}
use Rattle.linear.specs.Field.{Field}
use Rattle.field.specs.Alphabet.{Alphabet}
use Rattle.field.specs.declared.FiniteField.{Ghosts as FieldMembers}
use Rattle.linearized.specs.Polynomials.{at}
use Rattle.linearized.specs.Coefficients.{before}
use Rattle.linearized.specs.Interpolation.{Pair}
use Rattle.subspace_code.specs.Holding.{held_code}

abbrev pub room : ℕ
room = 48

abbrev pub FirstMoves : {S : Type 0} → Field S → (first second : S) (first_degree second_degree : ℕ) → Bool → Type 0
FirstMoves G v w d e true = (¬ (v ≡ G.zero)) × ((w ≡ G.zero) ⊎ (d ≤ e))
FirstMoves G v w d e false = (v ≡ G.zero) ⊎ ((¬ (w ≡ G.zero)) × (e < d))

pub record Weighted (S : Type 0) : Type 0 where
  pub pair : Pair S
  pub degree : ℕ

module _ {K S : Type 0} (A : Alphabet K S) where
  open A use {symbols as G}

  abbrev pub members : FieldMembers S
  members = record { field = G; size = A.size; code = A.code; element = A.element }

  abbrev pub polynomial : List ℕ → List S
  polynomial codes = map (held_code members) codes

  abbrev pub mixed : S → List S → S → List S → ℕ → S
  mixed a f b g n = G.add (G.mul a (at G f n)) (G.mul b (at G g n))

  abbrev pub shifted : S → List S → ℕ → S
  shifted c f n = G.add (A.frobenius (before G f n)) (G.mul c (at G f n))

  pub record Mixes (a : S) (P : Pair S) (b : S) (Q T : Pair S) : Type 0 where
    pub in_x : (n : ℕ) → at G T.x n ≡ mixed a P.x b Q.x n
    pub in_y : (n : ℕ) → at G T.y n ≡ mixed a P.y b Q.y n
