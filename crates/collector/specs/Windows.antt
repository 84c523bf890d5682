-- Windows: rows in reduced form, then zeros; and a row added to them.
--   Window d L           the first d rows of L are reduced, and the others are zero
--   PacketWindow ℓ d L   packets that are a window, with x codes below q^ℓ
--   Added d v L M e b    v was added to the window L of dimension d: now M, of dimension e; b says whether it rose
-- Assumes nothing.
use Rattle.std.specs.Prelude.{◌≡◌, ℕ, ◌+◌, ◌≤◌, Bool, true, false, cond, ◌↔◌, List, ◌∷◌, length, take, slice_index_or}
use Rattle.linear.specs.Field.{Field}
use Rattle.linear.specs.Rows.{Rows}
use Rattle.linear.specs.Span.{Each, Span, SameSpan, IsDim}
use Rattle.linear.specs.Reduced.{Reduced}
use Rattle.field.specs.Alphabet.{Alphabet}
use Rattle.packet.specs.declared.Packet.{Packet}
use Rattle.packet.specs.Packets.{packet_rows}
use Rattle.packet.specs.Headers.{HeaderBelow}

module _ {K V : Type 0} (F : Field K) (R : Rows K V) where
  pub record Window (d : ℕ) (L : List V) : Type 0 where
    pub within : d ≤ length L
    pub reduced : Reduced F R (take d L)
    pub zeros : (i : ℕ) → d ≤ i → slice_index_or L i R.none ≡ R.none

  pub record Added (d : ℕ) (v : V) (L M : List V) (e : ℕ) (rose : Bool) : Type 0 where
    pub window : Window e M
    pub spans : SameSpan R (v ∷ L) M
    pub dim : IsDim R (Span R (v ∷ L)) e
    pub count : e ≡ d + cond rose 1 0
    pub outside : (rose ≡ true) ↔ (¬ Span R L v)
    pub same : rose ≡ false → M ≡ L

abbrev pub PacketWindow : {K S : Type 0} → Alphabet K S → ℕ → ℕ → List (Packet S) → Type 0
PacketWindow A ℓ d L = Window A.scalars (packet_rows A) d L × Each (HeaderBelow A ℓ) L
