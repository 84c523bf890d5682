-- What the session's calls answer about the space U of the packets kept, in the words of spaces, dimension and distance.
--   list_limit     no number's list grows longer
--   packet_of      the packet of two codes
--   TakeAnswer     the new dimension, and whether it rose
--   kept           a feed's packets whose headers are below q^ℓ
--   DrainAnswer    how many were kept, how many were passed over
--   SolveAnswer    the message within ℓ − k of U is written, with what was lost and what is foreign
--   solve_causes   why U gives no message
-- Assumes nothing.
use Rattle.std.specs.Prelude.{◌≡◌, ℕ, ◌+◌, ◌*◌, ◌^◌, ◌<◌, ltb, List, [], ◌∷◌, ◌++◌, length, drop, filter, nat_lt}
use Rattle.linear.specs.Span.{Span, IsDim, Sum, Meet}
use Rattle.field.specs.Alphabet.{Alphabet}
use Rattle.packet.specs.declared.Packet.{Packet}
use Rattle.packet.specs.Packets.{packet_rows}
use Rattle.linearized.specs.Code.{Codeword}
use Rattle.linearized.specs.Distance.{Within, lost, foreign, faults}
use Rattle.answer.specs.declared.Taken.{Taken}
use Rattle.answer.specs.declared.Drained.{Drained}
use Rattle.answer.specs.declared.Solved.{Solved}
use Rattle.answer.specs.declared.refusal.Refusal.TheVariants.{OutputShort, DimensionLow, DimensionHigh, NoneNear}
use Rattle.answer.specs.Refusals.{Causes}

abbrev pub list_limit : ℕ
list_limit = 10000

module _ {K S : Type 0} (A : Alphabet K S) where
  abbrev pub packet_of : ℕ → ℕ → Packet S
  packet_of x y = record { x = A.element x; y = A.element y }

  pub record TakeAnswer (U : Packet S → Type 0) (p : Packet S) (answer : Taken) : Type 0 where
    pub before : ℕ
    pub is_before : IsDim (packet_rows A) U before
    pub is_after : IsDim (packet_rows A) (Sum (packet_rows A) U (Span (packet_rows A) (p ∷ []))) answer.dimension
    pub rose : answer.rose ≡ nat_lt before answer.dimension

  abbrev pub kept : ℕ → List (Packet S) → List (Packet S)
  kept ℓ packets = filter (λ p. ltb (A.code p.x) (A.q ^ ℓ)) packets

  pub record DrainAnswer (ℓ : ℕ) (packets : List (Packet S)) (answer : Drained) : Type 0 where
    pub is_kept : answer.kept ≡ length (kept ℓ packets)
    pub all : answer.kept + answer.passed ≡ length packets

  -- r is the dimension of U
  pub record SolveAnswer (k ℓ : ℕ) (U : Packet S → Type 0) (r : ℕ) (output written : List S) (answer : Solved) : Type 0 where
    pub message : List S
    pub within : Within A k ℓ U message
    pub is_written : written ≡ message ++ drop k output
    pub shared : ℕ
    pub is_shared : IsDim (packet_rows A) (Meet (packet_rows A) U (Codeword A ℓ message)) shared
    pub is_dimension : answer.dimension ≡ r
    pub is_lost : answer.lost ≡ lost ℓ shared
    pub is_foreign : answer.foreign ≡ foreign r shared
    pub is_faults : answer.faults ≡ faults ℓ r shared

  abbrev pub solve_causes : (k ℓ : ℕ) → (Packet S → Type 0) → (r places : ℕ) → Causes
  solve_causes k ℓ U r places =
      (places < k, OutputShort) ∷ (r < k, DimensionLow r) ∷ (2 * ℓ < r + k, DimensionHigh r)
      ∷ ((u : List S) → ¬ Within A k ℓ U u, NoneNear r) ∷ []
