-- Packets with short headers: their span and its dimension.
use mathlib.Core.Path.{◌≡◌, sym, ap, ap₂, subst, ◌∙◌}
use mathlib.Core.List.{List, [], ◌∷◌}
use Prim.Native.Nat.{ℕ, ◌+◌, ◌^◌, ◌≤◌, ◌<◌}
use native.Mathlib.Omega.{arith}
use Rattle.linear.specs.Span.{Each, Span, IsDim}
use Rattle.linear.proofs.Fields.{mul-zero}
use Rattle.linear.proofs.Spans.{InSpan, span_nil, span_cons, from_span}
use Rattle.linear.proofs.Forms.{dim_gap}
use Rattle.field.specs.Alphabet.{Alphabet, Lawful}
use Rattle.field.proofs.Symbols.{symbol_laws, coord_past, code_below}
use Rattle.packet.specs.declared.Packet.{Packet}
use Rattle.packet.specs.Packets.{packet_rows}
use Rattle.packet.specs.Headers.{HeaderBelow, HeadersBound}
use Rattle.packet.proofs.Packets.{packet_laws, coord_left}

module _ {K S : Type 0} {A : Alphabet K S} (laws : Lawful A) (ℓ : ℕ) (fits : ℓ ≤ A.m) where
  zero_coord : (i : ℕ) → A.coord A.symbols.zero i ≡ A.scalars.zero
  zero_coord = (symbol_laws laws).coord_none

  header_zero : HeaderBelow A ℓ (packet_rows A).none
  header_zero = code_below laws A.symbols.zero ℓ fits (λ i a b. zero_coord i)

  header_term : {p b w : Packet S} (c : K) → p ≡ (packet_rows A).plus ((packet_rows A).times c b) w → HeaderBelow A ℓ b → HeaderBelow A ℓ w → HeaderBelow A ℓ p
  header_term {p} {b} {w} c e hb hw =
      let F = A.scalars in
      let sum = A.symbols.add (A.symbols.mul (A.embed c) b.x) w.x in
      let below : A.code sum < A.q ^ ℓ = code_below laws sum ℓ fits (λ i h k.
      laws.extension.coord_add (A.symbols.mul (A.embed c) b.x) w.x i
      ∙ ap₂ F.add (laws.extension.coord_mul c b.x i ∙ ap (F.mul c) (coord_past laws b.x ℓ i hb h) ∙ mul-zero F c) (coord_past laws w.x ℓ i hw h) ∙ F.add-zero F.zero) in
      subst (HeaderBelow A ℓ) (sym e) below

  pub headers_span : (L : List (Packet S)) {p : Packet S} → Each (HeaderBelow A ℓ) L → InSpan (packet_rows A) L p → HeaderBelow A ℓ p
  headers_span [] h (span_nil e) = subst (HeaderBelow A ℓ) (sym e) header_zero
  headers_span (b ∷ B) (h, hs) (span_cons c w e s) = header_term c e h (headers_span B hs s)

  pub headers_dim : (L : List (Packet S)) (d : ℕ) → Each (HeaderBelow A ℓ) L → IsDim (packet_rows A) (Span (packet_rows A) L) d → d ≤ ℓ + A.m
  headers_dim L d h hd =
      let gap : d + A.m ≤ A.m + A.m + ℓ = dim_gap (packet_laws laws) ℓ A.m fits (omega arith) (λ p s i a b.
      coord_left A p i b ∙ coord_past laws p.x ℓ i (headers_span L h (from_span L s)) a) hd in
      omega arith

pub headers_bound : {K S : Type 0} {A : Alphabet K S} → Lawful A → HeadersBound A
headers_bound laws ℓ fits L h = record { headers = λ p s. headers_span laws ℓ fits L h (from_span L s); dimension = λ d. headers_dim laws ℓ fits L d h }
