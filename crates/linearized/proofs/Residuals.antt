-- Residuals y − f(x): their dimension measures what a space shares with a codeword space.
use Rattle.std.proofs.Common.{◌≡◌, ℕ, ◌+◌, ◌-◌, ◌*◌, ◌≤◌, ◌↔◌, List, map, length, sym, ap, ◌∙◌, subst, arith}
use Rattle.linear.specs.Span.{Each, Span, Spans, IsDim, Meet}
use Rattle.linear.specs.Maps.{Linear, Kernel}
use Rattle.linear.proofs.Spans.{from_span}
use Rattle.linear.proofs.Dims.{dim_same}
use Rattle.linear.proofs.Maps.{image_spans, rank_nullity}
use Rattle.field.specs.Alphabet.{Alphabet, Lawful, symbol_rows}
use Rattle.field.proofs.Symbols.{symbol_laws}
use Rattle.packet.specs.declared.Packet.{Packet}
use Rattle.packet.specs.Packets.{packet_rows}
use Rattle.packet.specs.Headers.{HeaderBelow}
use Rattle.packet.proofs.Packets.{packet_laws}
use Rattle.packet.proofs.HeaderBounds.{headers_span}
use Rattle.linearized.specs.Polynomials.{value}
use Rattle.linearized.specs.Code.{point, Codeword, residual}
use Rattle.linearized.specs.Distance.{Within}
use Rattle.linearized.proofs.Algebra.{add_swap, neg_sum, mul_neg, difference_zero}
use Rattle.linearized.proofs.Values.{value_add, value_scalar}
use Rattle.linearized.proofs.Points.{point_add, point_scalar}
use Rattle.linearized.proofs.Codewords.{codeword_dim}
use Rattle.linearized.proofs.Distances.{distance_shared, shared_least, meet_dim}

module _ {K S : Type 0} {A : Alphabet K S} (laws : Lawful A) where
  open A use {symbols as G, m, embed}
  open G use {zero, add, neg, mul}

  pub residual_linear : (u : List S) (U : Packet S → Type 0) → Linear (packet_rows A) (symbol_rows A) U (residual A u)
  residual_linear u U = record {
    sums = λ p r _ _. ap (λ z. add (add p.y r.y) (neg z)) (ap (value A u) (point_add A p.x r.x) ∙ value_add laws u _ _) ∙ ap (add _) (neg_sum G _ _) ∙ add_swap G _ _ _ _;
    multiples = λ c p _.
        ap (λ z. add (mul (embed c) p.y) (neg z)) (ap (value A u) (point_scalar A c p.x) ∙ value_scalar laws u c _) ∙ ap (add _) (sym (mul_neg G _ _)) ∙ sym (G.mul_add (embed c) _ _);
  }

  -- L spans U, with headers below q^ℓ
  module _ (ℓ : ℕ) (fits : ℓ ≤ m) (L : List (Packet S)) {U : Packet S → Type 0} (spans : Spans (packet_rows A) L U) (headers : Each (HeaderBelow A ℓ) L) (u : List S) where
    -- the packets of U with residual zero are those that U shares with the codeword space
    residual_kernel : (p : Packet S) → Meet (packet_rows A) U (Codeword A ℓ u) p ↔ Kernel (packet_rows A) (symbol_rows A) U (residual A u) p
    residual_kernel p = (
      λ (in-U, in-V). (in-U, ap (λ z. add z (neg (value A u (point A p.x)))) in-V.1 ∙ G.add_neg _),
      λ (in-U, e). (in-U, (headers_span laws ℓ fits L headers (from_span L ((spans p).1 in-U)), difference_zero G _ _ e)),
    )

    pub residual_rank : {r s b : ℕ} → IsDim (packet_rows A) U r → IsDim (packet_rows A) (Meet (packet_rows A) U (Codeword A ℓ u)) s →
        IsDim (symbol_rows A) (Span (symbol_rows A) (map (residual A u) L)) b → s + b ≡ r
    residual_rank dim-U dim-meet dim-residuals =
        let linear = residual_linear u U in
        rank_nullity (packet_laws laws) (symbol_laws laws) linear dim-U
        (dim_same (packet_rows A) residual_kernel dim-meet)
        (dim_same (symbol_rows A) (image_spans (packet_laws laws) (symbol_laws laws) linear L spans) dim-residuals)

    -- the dimension that U shares with the codeword space
    pub shared_measured : {r b : ℕ} → IsDim (packet_rows A) U r → IsDim (symbol_rows A) (Span (symbol_rows A) (map (residual A u) L)) b →
        (b ≤ r) × IsDim (packet_rows A) (Meet (packet_rows A) U (Codeword A ℓ u)) (r - b)
    shared_measured {r} {b} dim-U dim-residuals =
        let (s, shared) = meet_dim (packet_laws laws) dim-U (codeword_dim laws ℓ fits u) in
        let rank = residual_rank dim-U shared dim-residuals in
        let is : s ≡ r - b = omega arith in
        (omega arith, subst (IsDim (packet_rows A) (Meet (packet_rows A) U (Codeword A ℓ u))) is shared)

    pub within_test : {k r b : ℕ} → IsDim (packet_rows A) U r → IsDim (symbol_rows A) (Span (symbol_rows A) (map (residual A u) L)) b → length u ≡ k →
        Within A k ℓ U u ↔ (2 * b + k ≤ r)
    within_test {k} {r} {b} dim-U dim-residuals long = (
      λ within.
          let shared = within.apart.is_shared in
          let rank = residual_rank dim-U shared dim-residuals in
          let far = (distance_shared (packet_laws laws) dim-U dim_V shared).0 within.apart in
          omega (arith, within.close),
      λ close.
          let (some, shared) = shared_measured dim-U dim-residuals in
          let (a, c) = shared_least (packet_laws laws) dim-U dim_V shared in
          record {
            long = long;
            distance = r + ℓ - 2 * (r - b);
            apart = (distance_shared (packet_laws laws) dim-U dim_V shared).1 (omega arith);
            close = omega arith;
          },
    )
      where
        dim_V : IsDim (packet_rows A) (Codeword A ℓ u) ℓ
        dim_V = codeword_dim laws ℓ fits u
