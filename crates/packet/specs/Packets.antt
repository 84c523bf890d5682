-- Packets as rows: pairs of symbols with 2m coordinates, those of x first; and by the codes of their symbols.
--   packet_zero       both symbols zero
--   packet_sum        symbol by symbol
--   packet_multiple   both symbols times a scalar
--   packet_coord      the coordinate at a place; zero from 2m on
--   packet_rows       packets as a kind of row
--   packet_of_codes   the packet of two codes, absent where one is from the field's size on
-- Assumes nothing.
use Rattle.std.specs.Prelude.{cond, ℕ, ◌+◌, ◌-◌, ◌&&◌, ltb, Option, Some, None}
use Rattle.linear.specs.Rows.{Rows}
use Rattle.field.specs.Alphabet.{Alphabet}
use Rattle.packet.specs.declared.Packet.{Packet}

module _ {K S : Type 0} (A : Alphabet K S) where
  abbrev pub packet_zero : Packet S
  packet_zero = record { x = A.symbols.zero; y = A.symbols.zero }

  abbrev pub packet_sum : Packet S → Packet S → Packet S
  packet_sum p r = record { x = A.symbols.add p.x r.x; y = A.symbols.add p.y r.y }

  abbrev pub packet_multiple : K → Packet S → Packet S
  packet_multiple c p = record { x = A.symbols.mul (A.embed c) p.x; y = A.symbols.mul (A.embed c) p.y }

  abbrev pub packet_coord : Packet S → ℕ → K
  packet_coord p i = cond (ltb i A.m) (A.coord p.x i) (A.coord p.y (i - A.m))

  abbrev pub packet_rows : Rows K (Packet S)
  packet_rows = record { width = A.m + A.m; none = packet_zero; plus = packet_sum; times = packet_multiple; coord = packet_coord }

abbrev pub packet_of_codes : {S : Type 0} → ℕ → (ℕ → S) → ℕ → ℕ → Option (Packet S)
packet_of_codes size element x y = cond (ltb x size && ltb y size) (Some (record { x = element x; y = element y })) None
