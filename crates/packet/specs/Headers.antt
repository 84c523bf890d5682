-- What bounds the dimension of packets with short headers.
--   HeaderBelow    the code of a packet's x is below q^ℓ
--   Bound           every packet in the span has such an x, and the dimension is at most ℓ + m
--   HeadersBound   so it is of any packets with x codes below q^ℓ
-- Assumes nothing.
use Rattle.std.specs.Prelude.{List, ℕ, ◌+◌, ◌^◌, ◌≤◌, ◌<◌}
use Rattle.linear.specs.Span.{Each, Span, IsDim}
use Rattle.field.specs.Alphabet.{Alphabet}
use Rattle.packet.specs.declared.Packet.{Packet}
use Rattle.packet.specs.Packets.{packet_rows}

module _ {K S : Type 0} (A : Alphabet K S) where
  abbrev pub HeaderBelow : ℕ → Packet S → Type 0
  HeaderBelow ℓ p = A.code p.x < A.q ^ ℓ

  pub record Bound (ℓ : ℕ) (L : List (Packet S)) : Type 0 where
    pub headers : (p : Packet S) → Span (packet_rows A) L p → HeaderBelow ℓ p
    pub dimension : (d : ℕ) → IsDim (packet_rows A) (Span (packet_rows A) L) d → d ≤ ℓ + A.m

  abbrev pub HeadersBound : Type 0
  HeadersBound = (ℓ : ℕ) → ℓ ≤ A.m → (L : List (Packet S)) → Each (HeaderBelow ℓ) L → Bound ℓ L
