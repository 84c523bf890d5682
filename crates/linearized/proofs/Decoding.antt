-- Decoding: a message within the radius is the quotient of every interpolating pair, and the only one.
use Rattle.std.proofs.Common.{◌≡◌, ℕ, zero as 0ₙ, suc, ◌+◌, ◌-◌, ◌*◌, ◌<◌, ◌≤◌, List, [], map, length, sym, ap, ◌∙◌, subst, ap₂, inl, inr, arith}
use native.Mathlib.Decide.{dec_lt}
use Rattle.linear.specs.Span.{Each, Span, Spans, IsDim}
use Rattle.linear.proofs.Fields.{neg_unique}
use Rattle.field.specs.Alphabet.{Alphabet, Lawful, symbol_rows}
use Rattle.packet.specs.declared.Packet.{Packet}
use Rattle.packet.specs.Packets.{packet_rows}
use Rattle.packet.specs.Headers.{HeaderBelow}
use Rattle.packet.proofs.Packets.{packet_laws}
use Rattle.linearized.specs.Polynomials.{at, counted, value, composed, Divided}
use Rattle.linearized.specs.Coefficients.{Same, Null, IsNegative}
use Rattle.linearized.specs.Code.{point, residual}
use Rattle.linearized.specs.Distance.{Within}
use Rattle.linearized.specs.Interpolation.{τ, Interpolates}
use Rattle.linearized.proofs.Polynomials.{sum, at_sum, at_negative, compose, composed_compose}
use Rattle.linearized.proofs.Values.{value_sum, value_composed}
use Rattle.linearized.proofs.Counts.{counted_past, counted_least}
use Rattle.linearized.proofs.Compositions.{composed_zero}
use Rattle.linearized.proofs.Division.{division_unique}
use Rattle.linearized.proofs.Interpolation.{interpolation}
use Rattle.linearized.proofs.Codewords.{codeword_dim}
use Rattle.linearized.proofs.Distances.{distance_shared, shared_least}
use Rattle.linearized.proofs.Messages.{message_past, message_same, shared_roots}
use Rattle.linearized.proofs.Residuals.{within_test}

module _ {K S : Type 0} {A : Alphabet K S} (laws : Lawful A) where
  open A use {symbols as G, m}
  open G use {zero, add, neg}

  -- Qx + Qy(u)
  abbrev substituted : List S → List S → List S → List S
  substituted Qx Qy u = sum G Qx (compose A Qy u)

  substituted_at : (Qx Qy u : List S) (n : ℕ) → at G (substituted Qx Qy u) n ≡ add (at G Qx n) (composed A Qy u n)
  substituted_at Qx Qy u n = at_sum G Qx (compose A Qy u) n ∙ ap (add (at G Qx n)) (sym (composed_compose laws Qy u n))

  substituted_value : (Qx Qy u : List S) (x : S) → value A (substituted Qx Qy u) x ≡ add (value A Qx x) (value A Qy (value A u x))
  substituted_value Qx Qy u x =
      value_sum laws Qx (compose A Qy u) (substituted Qx Qy u) (at_sum G Qx (compose A Qy u)) x
      ∙ ap (add (value A Qx x)) (value_composed laws Qy u (compose A Qy u) (λ n. sym (composed_compose laws Qy u n)) x)

  substituted_few : (k t : ℕ) (Qx Qy u : List S) → counted G Qx ≤ t → counted G Qy ≤ t + 1 - k → length u ≡ k → counted G (substituted Qx Qy u) ≤ t
  substituted_few k t Qx Qy u few_x few_y long = counted_least G (substituted Qx Qy u) t (λ n l.
      substituted_at Qx Qy u n
      ∙ ap₂ add (counted_past G Qx n (omega arith)) (composed_zero laws Qy u n (λ i j e. elim (dec_lt j k) [
        | yes o ↦ inl (counted_past G Qy i (omega arith))
        | no o ↦ inr (message_past G u long j (omega arith))
      ])) ∙ G.add-zero zero)

  module _ (k ℓ r : ℕ) (fits : ℓ ≤ m) {U : Packet S → Type 0} (dim-U : IsDim (packet_rows A) U r) (u : List S) (within : Within A k ℓ U u) where
    within_far : within.distance + 2 * within.apart.shared ≡ r + ℓ
    within_far = (distance_shared (packet_laws laws) dim-U (codeword_dim laws ℓ fits u) within.apart.is_shared).0 within.apart

    pub within_reach : (k ≤ r) × (r + k ≤ 2 * ℓ)
    within_reach =
        let (a, b) = shared_least (packet_laws laws) dim-U (codeword_dim laws ℓ fits u) within.apart.is_shared in
        (omega (arith, within_far, within.close), omega (arith, within_far, within.close))

    module _ (Qx Qy : List S) (pair : Interpolates A k (τ r k) U Qx Qy) where
      -- Qx + Qy(u) = 0
      pub pair_solved : (n : ℕ) → add (at G Qx n) (composed A Qy u n) ≡ zero
      pair_solved n =
          let few = substituted_few k (τ r k) Qx Qy u pair.few_x pair.few_y within.long in
          let many : τ r k ≤ within.apart.shared = omega (arith, within_far, within.close) in
          sym (substituted_at Qx Qy u n)
          ∙ shared_roots laws ℓ u (substituted Qx Qy u) within.apart.is_shared (omega arith)
          (λ p in-U in-V. substituted_value Qx Qy u (point A p.x) ∙ ap (λ y. add (value A Qx (point A p.x)) (value A Qy y)) (sym in-V.1) ∙ pair.vanish p in-U) n

      pub pair_some : 0 < counted G Qy
      pair_some = elim (dec_lt 0 (counted G Qy)) [
        | yes l ↦ l
        | no l ↦
            let null-y : Null G Qy = λ i. counted_past G Qy i (omega arith) in
            let null-x : counted G Qx ≤ 0 = counted_least G Qx 0 (λ n _. sym (G.add-zero _) ∙ ap (add _) (sym (composed_zero laws Qy u n (λ i j _. inl (null-y i)))) ∙ pair_solved n) in
            absurd (let no-pair : ⊥ = omega (arith, pair.some) in no-pair)
      ]

      -- − Qx = Qy(u)
      pub pair_quotient : (D : List S) → IsNegative G Qx D → Divided A D Qy u []
      pair_quotient D negative = record {
        shorter = pair_some;
        whole = λ n. negative n ∙ sym (neg_unique G (at G Qx n) (composed A Qy u n) (pair_solved n)) ∙ sym (G.add-zero _);
      }

      pub decoding_exact : (D f R : List S) → IsNegative G Qx D → Divided A D Qy f R → Same G f u × Null G R
      decoding_exact D f R negative divided = division_unique laws D Qy f R u [] divided (pair_quotient D negative)

  -- one message within the radius
  pub within_unique : (k ℓ r : ℕ) → ℓ ≤ m → (U : Packet S → Type 0) → IsDim (packet_rows A) U r → (u w : List S) → Within A k ℓ U u → Within A k ℓ U w → u ≡ w
  within_unique 0ₙ ℓ r fits U dim-U u w in-u in-w = message_same G 0 u w in-u.long in-w.long (λ n l. absurd (omega arith))
  within_unique (suc k) ℓ r fits U dim-U u w in-u in-w =
      let (Qx, Qy, pair) = interpolation laws (suc k) r (omega arith) U dim-U in
      let quotient = pair_quotient (suc k) ℓ r fits dim-U u in-u Qx Qy pair (map neg Qx) (at_negative G Qx) in
      let same = (decoding_exact (suc k) ℓ r fits dim-U w in-w Qx Qy pair (map neg Qx) u [] (at_negative G Qx) quotient).0 in
      message_same G (suc k) u w in-u.long in-w.long (λ n _. same n)

  -- L spans U, with headers below q^ℓ; u has the first k coefficients of the quotient f, and its residuals have dimension b
  pub decoding_only : (k ℓ r : ℕ) → ℓ ≤ m → (L : List (Packet S)) {U : Packet S → Type 0} → Spans (packet_rows A) L U → Each (HeaderBelow A ℓ) L →
      IsDim (packet_rows A) U r → (Qx Qy D f R u : List S) → Interpolates A k (τ r k) U Qx Qy → IsNegative G Qx D → Divided A D Qy f R →
      length u ≡ k → ((n : ℕ) → n < k → at G u n ≡ at G f n) → (b : ℕ) → IsDim (symbol_rows A) (Span (symbol_rows A) (map (residual A u) L)) b →
      (w : List S) → Within A k ℓ U w → (w ≡ u) × (2 * b + k ≤ r)
  decoding_only k ℓ r fits L {U} spans headers dim-U Qx Qy D f R u pair negative divided long front b rank w within =
      let same = (decoding_exact k ℓ r fits dim-U w within Qx Qy pair D f R negative divided).0 in
      let is = message_same G k w u within.long long (λ n l. sym (same n) ∙ sym (front n l)) in
      (is, (within_test laws ℓ fits L spans headers u dim-U rank long).0 (subst (Within A k ℓ U) is within))
