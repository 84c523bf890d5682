-- Where a row may be added without more room, and what stays of a window of packets.
use Rattle.std.proofs.Common.{◌≡◌, ℕ, zero, suc, ◌+◌, ◌<◌, ◌≤◌, Bool, List, [], ◌∷◌, length, get_or, replicate, refl, arith}
use Rattle.linear.specs.Field.{Field}
use Rattle.linear.specs.Rows.{Rows, RowLaws}
use Rattle.linear.specs.Span.{Span}
use Rattle.linear.proofs.Each.{each_from}
use Rattle.linear.proofs.Spans.{to_span, span_at}
use Rattle.linear.proofs.Dims.{dim_more}
use Rattle.linear.proofs.Forms.{dim_width}
use Rattle.field.specs.Alphabet.{Alphabet, Lawful}
use Rattle.packet.specs.declared.Packet.{Packet}
use Rattle.packet.specs.Packets.{packet_rows}
use Rattle.packet.specs.Headers.{HeaderBelow}
use Rattle.packet.proofs.Packets.{packet_laws}
use Rattle.packet.proofs.HeaderBounds.{headers_bound}
use Rattle.collector.specs.Windows.{Window, Added, PacketWindow}
use Rattle.collector.proofs.Windows.{window_dim}

module _ {K V : Type 0} {F : Field K} {R : Rows K V} (laws : RowLaws F R) where
  -- as many rows as coordinates suffice
  pub width_room : {d : ℕ} {L : List V} {v : V} → Window F R d L → R.width ≤ length L → ¬ Span R L v → d < length L
  width_room {L = L} w h out = let k = dim_width laws (dim_more laws L (window_dim laws w) out) in omega arith

  pub window_zero : (n : ℕ) → Window F R 0 (replicate n R.none)
  window_zero n = record { within = omega arith; reduced = record { at = []; many = refl; leads = λ i h. absurd (let b : ⊥ = omega arith in b); rise = λ i j h k. absurd (let b : ⊥ = omega arith in b); others = λ i j h k. absurd (let b : ⊥ = omega arith in b) }; zeros = λ i h. at n i }
    where
      at : (n i : ℕ) → get_or (replicate n R.none) i R.none ≡ R.none
      at zero i = refl
      at (suc n) zero = refl
      at (suc n) (suc i) = at n i

module _ {K S : Type 0} {A : Alphabet K S} (laws : Lawful A) (ℓ : ℕ) (fits : ℓ ≤ A.m) where
  -- ℓ + m rows suffice for packets with x codes below q^ℓ
  pub packet_room : {d : ℕ} {L : List (Packet S)} {p : Packet S} → PacketWindow A ℓ d L → ℓ + A.m ≤ length L → HeaderBelow A ℓ p → ¬ Span (packet_rows A) L p → d < length L
  packet_room {d} {L} {p} (w, hs) h hp out =
      let k = (headers_bound laws ℓ fits (p ∷ L) (hp, hs)).dimension (suc d) (dim_more (packet_laws laws) L (window_dim (packet_laws laws) w) out) in omega arith

  -- and they keep such codes
  pub packet_added : {d e : ℕ} {L M : List (Packet S)} {p : Packet S} {rose : Bool} → PacketWindow A ℓ d L → HeaderBelow A ℓ p → Added A.scalars (packet_rows A) d p L M e rose → PacketWindow A ℓ e M
  packet_added {L = L} {M = M} {p = p} (w, hs) hp a = (
    a.window,
    each_from (HeaderBelow A ℓ) (packet_rows A).none M (λ i h.
        (headers_bound laws ℓ fits (p ∷ L) (hp, hs)).headers (get_or M i (packet_rows A).none) ((a.spans (get_or M i (packet_rows A).none)).1 (to_span (span_at (packet_laws laws) M i h)))),
  )
