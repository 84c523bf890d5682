-- The rows of a session: each of the eight numbers has a window of ℓ + m rows.
--   width         how many rows a number has
--   window        the rows of number b
--   put_window    all rows, with those of number b replaced
--   zero_rows     n zero packets
--   Place         where number b's window of w rows stands among all rows
-- Assumes nothing.
use Rattle.std.specs.Prelude.{◌≡◌, ℕ, ◌+◌, ◌*◌, ◌≤◌, List, ◌++◌, take, drop, replicate}
use Rattle.std.specs.declared.ops.Range.{Range}
use Rattle.field.specs.Alphabet.{Alphabet}
use Rattle.packet.specs.declared.Packet.{Packet}
use Rattle.packet.specs.Packets.{packet_zero}

abbrev pub window : {V : Type 0} → (width b : ℕ) → List V → List V
window width b rows = take width (drop (b * width) rows)

abbrev pub put_window : {V : Type 0} → (width b : ℕ) → List V → List V → List V
put_window width b new rows = take (b * width) rows ++ (new ++ drop width (drop (b * width) rows))

pub record Place (w b : ℕ) (place : Range ℕ) : Type 0 where
  pub start : place.start ≡ b * w
  pub end : place.end ≡ b * w + w
  pub within : place.end ≤ 8 * w

module _ {K S : Type 0} (A : Alphabet K S) where
  abbrev pub width : ℕ → ℕ
  width ℓ = ℓ + A.m

  abbrev pub zero_rows : ℕ → List (Packet S)
  zero_rows n = replicate n (packet_zero A)
