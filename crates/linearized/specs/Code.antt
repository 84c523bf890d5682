-- The code: codeword spaces and the packets of a block.
--   point        the element that a header stands for, at which a message is evaluated: the header itself
--   packet_at    the packet of the message u with header x
--   Codeword     the codeword space V(u): all (x, f(x)) with the code of x below q^ℓ
--   basis        b_i, the symbol with code q^i
--   packets      what is sent for the message u: (b_i, f(b_i)) for i from 0 to ℓ − 1
--   residual     y − f(x)
-- Assumes nothing.
use Rattle.std.specs.Prelude.{◌≡◌, ℕ, ◌^◌, ◌<◌, List, map}
use Rattle.std.specs.List.{range_with_len}
use Rattle.field.specs.Alphabet.{Alphabet}
use Rattle.packet.specs.declared.Packet.{Packet}
use Rattle.linearized.specs.Polynomials.{value}

module _ {K S : Type 0} (A : Alphabet K S) where
  abbrev pub point : S → S
  point x = x

  abbrev pub packet_at : List S → S → Packet S
  packet_at u x = record { x = x; y = value A u (point x) }

  abbrev pub Codeword : ℕ → List S → Packet S → Type 0
  Codeword ℓ u p = (A.code p.x < A.q ^ ℓ) × (p.y ≡ value A u (point p.x))

  abbrev pub basis : ℕ → S
  basis i = A.element (A.q ^ i)

  abbrev pub packets : ℕ → List S → List (Packet S)
  packets ℓ u = map (λ i. packet_at u (basis i)) (range_with_len 0 ℓ)

  abbrev pub residual : List S → Packet S → S
  residual u p = A.symbols.add p.y (A.symbols.neg (value A u (point p.x)))
