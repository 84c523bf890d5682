-- Codeword spaces: the packets of a block span one, in dimension ℓ, and a packet of one is zero if its header is.
use Rattle.std.proofs.Common.{◌≡◌, ℕ, ◌≤◌, List, [], map, sym, refl, ap, ◌∙◌, subst, append-nil}
use mathlib.Core.List.{map-map}
use Rattle.std.specs.List.{range_with_len}
use Rattle.std.proofs.lemmas.List.FromFn.{length-map-range_with_len}
use Rattle.linear.specs.Field.{Field}
use Rattle.linear.specs.Rows.{Rows, RowLaws}
use Rattle.linear.specs.Span.{Spans, IsDim}
use Rattle.linear.specs.Maps.{Linear}
use Rattle.linear.proofs.Spans.{InSpan, span_nil, Indep, within_refl, from_span, to_span, from_independent}
use Rattle.linear.proofs.Dims.{Basis, basis_dim}
use Rattle.linear.proofs.Maps.{image_indep, image_spans}
use Rattle.field.specs.Alphabet.{Alphabet, Lawful, symbol_rows}
use Rattle.field.proofs.Symbols.{symbol_laws}
use Rattle.packet.specs.declared.Packet.{Packet}
use Rattle.packet.specs.Packets.{packet_zero, packet_rows}
use Rattle.packet.proofs.Packets.{packet_laws}
use Rattle.linearized.specs.Polynomials.{value}
use Rattle.linearized.specs.Code.{point, packet_at, Codeword, basis, packets}
use Rattle.linearized.proofs.Values.{value_add, value_scalar, value_zero}
use Rattle.linearized.proofs.Points.{point_add, point_scalar, point_zero_only}
use Rattle.linearized.proofs.Headers.{header_basis, headers_spanned, headers_independent}

-- a linear map that takes only zero to zero keeps lists independent
pub injective_indep : {K V W : Type 0} {F : Field K} {R : Rows K V} {S : Rows K W} (rows : RowLaws F R) (images : RowLaws F S)
    {U : V → Type 0} {f : V → W} → Linear R S U f → (B : List V) → ((v : V) → InSpan R B v → U v) →
    ((v : V) → U v → f v ≡ S.none → v ≡ R.none) → Indep R B → Indep S (map f B)
injective_indep {R = R} rows images linear B inside injective i =
    image_indep rows images linear B inside [] (within_refl rows B) (λ v s e. span_nil (injective v (inside v s) e)) (subst (Indep R) (sym (append-nil B)) i)

module _ {K S : Type 0} {A : Alphabet K S} (laws : Lawful A) where
  open A use {symbols as G, q, m, embed, code}
  open G use {zero, add, mul}

  pub packet_at_linear : (u : List S) (U : S → Type 0) → Linear (symbol_rows A) (packet_rows A) U (packet_at A u)
  packet_at_linear u U = record {
    sums = λ x y _ _. let e = ap (value A u) (point_add A x y) ∙ value_add laws u _ _ in λ i. record { x = add x y; y = e i };
    multiples = λ c x _. let e = ap (value A u) (point_scalar A c x) ∙ value_scalar laws u c _ in λ i. record { x = mul (embed c) x; y = e i };
  }

  pub codeword_zero : (ℓ : ℕ) (u : List S) (p : Packet S) → Codeword A ℓ u p → point A p.x ≡ zero → p ≡ packet_zero A
  codeword_zero ℓ u p (below, on) e =
      let x-is = point_zero_only A ℓ p.x below e in
      let y-is = on ∙ ap (value A u) e ∙ value_zero laws u in
      λ i. record { x = x-is i; y = y-is i }

  -- the packets of u over any headers
  pub graph_spanned : (u X : List S) {H : S → Type 0} → Spans (symbol_rows A) X H →
      Spans (packet_rows A) (map (packet_at A u) X) (λ p. H p.x × (p.y ≡ value A u (point A p.x)))
  graph_spanned u X {H} spans p =
      let image = image_spans (symbol_laws laws) (packet_laws laws) (packet_at_linear u H) X spans in (
        λ s. let (x, in-H, e) = (image p).0 s in subst (λ r. H r.x × (r.y ≡ value A u (point A r.x))) e (in-H, refl),
        λ (in-H, on). (image p).1 (p.x, in-H, λ i. record { x = p.x; y = sym on i }),
      )

  pub graph_indep : (u X : List S) → Indep (symbol_rows A) X → Indep (packet_rows A) (map (packet_at A u) X)
  graph_indep u X = injective_indep (symbol_laws laws) (packet_laws laws) (packet_at_linear u (λ _. Unit {0})) X (λ _ _. tt) (λ x _ e. ap (λ p. p.x) e)

  packets_mapped : (ℓ : ℕ) (u : List S) → map (packet_at A u) (header_basis A ℓ) ≡ packets A ℓ u
  packets_mapped ℓ u = map-map (packet_at A u) (basis A) (range_with_len 0 ℓ)

  pub codeword_spanned : (ℓ : ℕ) → ℓ ≤ m → (u : List S) → Spans (packet_rows A) (packets A ℓ u) (Codeword A ℓ u)
  codeword_spanned ℓ h u = subst (λ L. Spans (packet_rows A) L (Codeword A ℓ u)) (packets_mapped ℓ u) (graph_spanned u (header_basis A ℓ) (headers_spanned laws ℓ h))

  pub packets_indep : (ℓ : ℕ) → ℓ ≤ m → (u : List S) → Indep (packet_rows A) (packets A ℓ u)
  packets_indep ℓ h u =
      subst (Indep (packet_rows A)) (packets_mapped ℓ u)
      (graph_indep u (header_basis A ℓ) (from_independent (symbol_laws laws) (header_basis A ℓ) (headers_independent laws ℓ h)))

  pub codeword_basis : (ℓ : ℕ) → ℓ ≤ m → (u : List S) → Basis (packet_rows A) (Codeword A ℓ u) ℓ
  codeword_basis ℓ h u = record {
    rows = packets A ℓ u;
    many = length-map-range_with_len (λ i. packet_at A u (basis A i)) 0 ℓ;
    indep = packets_indep ℓ h u;
    inside = λ p s. (codeword_spanned ℓ h u p).0 (to_span s);
    covers = λ p c. from_span (packets A ℓ u) ((codeword_spanned ℓ h u p).1 c);
  }

  pub codeword_dim : (ℓ : ℕ) → ℓ ≤ m → (u : List S) → IsDim (packet_rows A) (Codeword A ℓ u) ℓ
  codeword_dim ℓ h u = basis_dim (packet_laws laws) (codeword_basis ℓ h u)

  -- the points of independent packets of one codeword space are independent
  pub points_indep : (ℓ : ℕ) (u : List S) (L : List (Packet S)) → ((p : Packet S) → InSpan (packet_rows A) L p → Codeword A ℓ u p) → Indep (packet_rows A) L →
      Indep (symbol_rows A) (map (λ p. point A p.x) L)
  points_indep ℓ u L inside i =
      injective_indep (packet_laws laws) (symbol_laws laws)
      (record { sums = λ p r _ _. point_add A p.x r.x; multiples = λ c p _. point_scalar A c p.x }) L inside (codeword_zero ℓ u) i
