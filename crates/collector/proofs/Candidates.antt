-- What the measure of a candidate decides: it is the message, or there is none.
use Rattle.std.proofs.Common.{◌≡◌, ℕ, ◌+◌, ◌-◌, ◌*◌, ◌<◌, ◌≤◌, List, ◌++◌, map, length, drop, None, refl, ap, arith}
use Rattle.linear.specs.Span.{Each, Span, IsDim}
use Rattle.field.specs.Alphabet.{Alphabet, Lawful, symbol_rows}
use Rattle.packet.specs.declared.Packet.{Packet}
use Rattle.packet.specs.Packets.{packet_rows}
use Rattle.packet.specs.Headers.{HeaderBelow}
use Rattle.packet.proofs.Packets.{packet_laws}
use Rattle.linearized.specs.Polynomials.{at}
use Rattle.linearized.specs.Code.{residual}
use Rattle.linearized.specs.Distance.{Within}
use Rattle.linearized.proofs.Codewords.{codeword_dim}
use Rattle.linearized.proofs.Distances.{shared_least}
use Rattle.linearized.proofs.Residuals.{shared_measured, within_test}
use Rattle.linearized.proofs.Decoding.{pair_some, decoding_only}
use Rattle.collector.specs.Answers.{SolveAnswer}
use Rattle.collector.specs.Decoding.{Candidate, Quotient}

-- L has headers below q^ℓ, and as many packets as dimensions
module _ {K S : Type 0} {A : Alphabet K S} (laws : Lawful A) (k ℓ : ℕ) (fits : ℓ ≤ A.m) (L : List (Packet S)) (headers : Each (HeaderBelow A ℓ) L) (dim : IsDim (packet_rows A) (Span (packet_rows A) L) (length L)) where
  pub no_quotient : Quotient A k (length L) (Span (packet_rows A) L) None → (u : List S) → ¬ Within A k ℓ (Span (packet_rows A) L) u
  no_quotient (Qx, Qy, pair, empty) u within = let some = pair_some laws k ℓ (length L) fits dim u within Qx Qy pair in omega arith

  -- u is a message whose residuals have dimension b
  module _ (u : List S) (b : ℕ) (rank : IsDim (symbol_rows A) (Span (symbol_rows A) (map (residual A u) L)) b) where
    -- what is shared is r − b
    pub measured_shared : (b ≤ length L) × (length L - b ≤ ℓ)
    measured_shared =
        let (some, shared) = shared_measured laws ℓ fits L (λ p. (λ s. s, λ s. s)) headers u dim rank in
        (some, (shared_least (packet_laws laws) dim (codeword_dim laws ℓ fits u) shared).1)

    pub measured_found : length u ≡ k → 2 * b + k ≤ length L → (output written : List S) → written ≡ u ++ drop k output →
        SolveAnswer A k ℓ (Span (packet_rows A) L) (length L) output written
        (record { dimension = length L; lost = ℓ - (length L - b); foreign = b; faults = ℓ - (length L - b) + b })
    measured_found long close output written is_written =
        let back : b ≡ length L - (length L - b) = omega (arith, measured_shared) in
        record {
          message = u;
          within = (within_test laws ℓ fits L (λ p. (λ s. s, λ s. s)) headers u dim rank long).1 close;
          is_written = is_written;
          shared = length L - b;
          is_shared = (shared_measured laws ℓ fits L (λ p. (λ s. s, λ s. s)) headers u dim rank).1;
          is_dimension = refl;
          is_lost = refl;
          is_foreign = back;
          is_faults = ap (λ n. ℓ - (length L - b) + n) back;
        }

    -- u has the first k coefficients of a candidate
    pub measured_none : (f : List S) → Candidate A k (length L) (Span (packet_rows A) L) f → length u ≡ k → ((n : ℕ) → n < k → at A.symbols u n ≡ at A.symbols f n) →
        length L < 2 * b + k → (w : List S) → ¬ Within A k ℓ (Span (packet_rows A) L) w
    measured_none f c long front far w within =
        let only = decoding_only laws k ℓ (length L) fits L (λ p. (λ s. s, λ s. s)) headers dim c.Qx c.Qy c.D f c.R u c.interpolates c.negative c.divided long front b rank w within in
        omega (arith, only.1)
