-- What the call `encode` answers and writes.
--   fits             1 ≤ k ≤ ℓ ≤ m
--   encode_refusal   the lowest refusal that applies
--   encoded          the output after the call
-- Assumes nothing.
use Rattle.std.specs.Prelude.{ℕ, Bool, not, ◌&&◌, List, [], ◌∷◌, ◌++◌, drop, Some, None, Option, ◌==◌, nat_le, nat_lt}
use Rattle.field.specs.Alphabet.{Alphabet}
use Rattle.packet.specs.declared.Packet.{Packet}
use Rattle.answer.specs.declared.refusal.Refusal.{Refusal}
use Rattle.answer.specs.declared.refusal.Refusal.TheVariants.{Parameters, OutputShort, MessageLength}
use Rattle.answer.specs.Refusals.{first_cause}
use Rattle.linearized.specs.Code.{packets}

abbrev pub fits : ℕ → ℕ → ℕ → Bool
fits k ℓ m = nat_le 1 k && (nat_le k ℓ && nat_le ℓ m)

-- the message has n symbols and the output `places` places
abbrev pub encode_refusal : (m k ℓ n places : ℕ) → Option Refusal
encode_refusal m k ℓ n places =
    first_cause ((not (fits k ℓ m), Parameters) ∷ (nat_lt places ℓ, OutputShort) ∷ (not (n == k), MessageLength) ∷ [])

abbrev pub encoded : {K S : Type 0} → Alphabet K S → Option Refusal → ℕ → List S → List (Packet S) → List (Packet S)
encoded A None ℓ u output = packets A ℓ u ++ drop ℓ output
encoded A (Some refusal) ℓ u output = output
