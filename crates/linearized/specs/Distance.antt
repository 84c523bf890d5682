-- Subspace distance, and what stands between a codeword space and the space that was taken.
--   Distance     dim(U + W) − dim(U ∩ W)
--   lost         of the codeword space's ℓ dimensions, those that are not shared
--   foreign      of the taken space's r dimensions, those that are not shared
--   faults       lost and foreign together
--   Within       the message u of k symbols has its codeword space within distance ℓ − k of U
-- Assumes nothing.
use Rattle.std.specs.Prelude.{◌≡◌, ℕ, ◌+◌, ◌-◌, ◌≤◌, List, length}
use Rattle.linear.specs.Rows.{Rows}
use Rattle.linear.specs.Span.{IsDim, Sum, Meet}
use Rattle.field.specs.Alphabet.{Alphabet}
use Rattle.packet.specs.declared.Packet.{Packet}
use Rattle.packet.specs.Packets.{packet_rows}
use Rattle.linearized.specs.Code.{Codeword}

pub record Distance {K V : Type 0} (R : Rows K V) (U W : V → Type 0) (d : ℕ) : Type 0 where
  pub sum : ℕ
  pub is_sum : IsDim R (Sum R U W) sum
  pub shared : ℕ
  pub is_shared : IsDim R (Meet R U W) shared
  pub apart : sum ≡ shared + d

abbrev pub lost : ℕ → ℕ → ℕ
lost ℓ shared = ℓ - shared

abbrev pub foreign : ℕ → ℕ → ℕ
foreign r shared = r - shared

abbrev pub faults : ℕ → ℕ → ℕ → ℕ
faults ℓ r shared = lost ℓ shared + foreign r shared

module _ {K S : Type 0} (A : Alphabet K S) where
  pub record Within (k ℓ : ℕ) (U : Packet S → Type 0) (u : List S) : Type 0 where
    pub long : length u ≡ k
    pub distance : ℕ
    pub apart : Distance (packet_rows A) U (Codeword A ℓ u) distance
    pub close : distance + k ≤ ℓ
