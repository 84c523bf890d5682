-- Packets given by codes, with what shows their dimension: the worked examples of solve.
--   Certificate    a reduced form by codes, the places where its rows lead, and their weights over the list that it is the form of
use Rattle.std.proofs.Common.{◌≡◌, ℕ, ◌+◌, ◌-◌, ◌*◌, ◌<◌, ◌≤◌, Bool, not, T, List, [], ◌∷◌, map, length}
use Rattle.linear.specs.Span.{Span, IsDim}
use Rattle.field.specs.Alphabet.{Alphabet, Lawful, symbol_rows}
use Rattle.field.proofs.Symbols.{symbol_laws, scalar_code_same}
use Rattle.packet.specs.Packets.{packet_rows}
use Rattle.packet.proofs.Packets.{packet_laws}
use Rattle.linearized.specs.Code.{residual}
use Rattle.linearized.specs.Distance.{lost, foreign, faults}
use Rattle.answer.specs.declared.refusal.Refusal.TheVariants.{DimensionLow, DimensionHigh, NoneNear}
use Rattle.binary.proofs.Tests.{below}
use Rattle.examples.specs.Examples.{packets_of, Reduces, Gives, Refuses}
use Rattle.examples.proofs.Forms.{form?, form_checked, dim_checked}
use Rattle.examples.proofs.Solved.{headers?, headers_checked, fits?, low_refused, high_refused, none_refused, none_tried, given}

pub record Certificate (X : Type 0) : Type 0 where
  pub places : List ℕ
  pub weights : List (List ℕ)
  pub rows : List X

module _ {K S : Type 0} (A : Alphabet K S) where
  abbrev pub weights_of : List (List ℕ) → List (List K)
  weights_of weights = map (map A.scalar_element) weights

  abbrev pub packets? : List (ℕ × ℕ) → Certificate (ℕ × ℕ) → Bool
  packets? codes c = form? A.scalars (packet_rows A) A.scalar_code c.places (weights_of c.weights) (packets_of A codes) (packets_of A c.rows)

  -- the residuals of the packets for a message
  abbrev pub residuals : List (ℕ × ℕ) → List ℕ → List S
  residuals codes message = map (residual A (map A.element message)) (packets_of A codes)

  abbrev pub residuals? : List (ℕ × ℕ) → List ℕ → Certificate ℕ → Bool
  residuals? codes message c =
      form? A.scalars (symbol_rows A) A.scalar_code c.places (weights_of c.weights) (residuals codes message) (map A.element c.rows)

-- the packets with these codes have the reduced form c
module _ {K S : Type 0} {A : Alphabet K S} (laws : Lawful A) (codes : List (ℕ × ℕ)) (c : Certificate (ℕ × ℕ)) (t : T (packets? A codes c)) where
  pub reduces : Reduces A codes c.rows
  reduces = form_checked (packet_laws laws) A.scalar_code (scalar_code_same laws) c.places (weights_of A c.weights) (packets_of A codes) (packets_of A c.rows) t

  abbrev r : ℕ
  r = length (packets_of A c.rows)

  dim : IsDim (packet_rows A) (Span (packet_rows A) (packets_of A codes)) r
  dim = dim_checked (packet_laws laws) A.scalar_code (scalar_code_same laws) c.places (weights_of A c.weights) (packets_of A codes) (packets_of A c.rows) t

  module _ (k ℓ : ℕ) (fits : ℓ ≤ A.m) (headers : T (headers? A ℓ (packets_of A codes))) where
    pub low : r < k → Refuses A k ℓ codes (DimensionLow r)
    low = low_refused laws k ℓ fits (packets_of A codes) (headers_checked A ℓ (packets_of A codes) headers) r dim

    pub high : k ≤ r → 2 * ℓ < r + k → Refuses A k ℓ codes (DimensionHigh r)
    high = high_refused laws k ℓ fits (packets_of A codes) (headers_checked A ℓ (packets_of A codes) headers) r dim

    pub none : k ≡ 1 → r < 3 → k ≤ r → r + k ≤ 2 * ℓ → T (below (λ n. not (fits? A (A.element n ∷ []) (packets_of A codes))) A.size) → Refuses A k ℓ codes (NoneNear r)
    none one tight some few tried =
        let below-limit = headers_checked A ℓ (packets_of A codes) headers in
        none_refused laws k ℓ fits (packets_of A codes) below-limit r dim some few (none_tried laws k ℓ fits (packets_of A codes) below-limit r dim one tight tried)

    -- the residuals for the message have the reduced form d
    module _ (message : List ℕ) (d : Certificate ℕ) (s : T (residuals? A codes message d)) where
      abbrev b : ℕ
      b = length (map A.element d.rows)

      rank : IsDim (symbol_rows A) (Span (symbol_rows A) (residuals A codes message)) b
      rank = dim_checked (symbol_laws laws) A.scalar_code (scalar_code_same laws) d.places (weights_of A d.weights) (residuals A codes message) (map A.element d.rows) s

      pub gives : length (map A.element message) ≡ k → 2 * b + k ≤ r →
          Gives A k ℓ codes message (record { dimension = r; lost = lost ℓ (r - b); foreign = foreign r (r - b); faults = faults ℓ r (r - b) })
      gives long close = given laws k ℓ fits (packets_of A codes) (headers_checked A ℓ (packets_of A codes) headers) r dim (map A.element message) long rank close
