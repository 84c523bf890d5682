-- Messages and their codeword spaces: what two spaces share bounds the coefficients that can vanish there.
use Rattle.std.proofs.Common.{◌≡◌, ℕ, ◌+◌, ◌-◌, ◌*◌, ◌<◌, ◌≤◌, List, [], ◌∷◌, map, length, sym, ap, ◌∙◌, ap₂, arith}
use native.Mathlib.Decide.{dec_lt}
use lib.ListN.{length-map, get_or-eq_default}
use Rattle.std.proofs.lemmas.List.{ext_get_or}
use Rattle.linear.specs.Field.{Field}
use Rattle.linear.specs.Span.{Each, IsDim, Meet}
use Rattle.linear.proofs.Spans.{InSpan, Within as ListWithin, within_nil, within_cons, within_refl}
use Rattle.linear.proofs.Dims.{dim_basis, dim_same}
use Rattle.field.specs.Alphabet.{Alphabet, Lawful}
use Rattle.packet.specs.declared.Packet.{Packet}
use Rattle.packet.specs.Packets.{packet_rows}
use Rattle.packet.proofs.Packets.{packet_laws}
use Rattle.linearized.specs.Polynomials.{at, counted, value}
use Rattle.linearized.specs.Coefficients.{Null}
use Rattle.linearized.specs.Code.{point, Codeword}
use Rattle.linearized.specs.Distance.{Distance, Within}
use Rattle.linearized.proofs.Algebra.{difference_zero}
use Rattle.linearized.proofs.Polynomials.{difference, at_difference}
use Rattle.linearized.proofs.Values.{value_difference}
use Rattle.linearized.proofs.Counts.{counted_least}
use Rattle.linearized.proofs.Kernels.{kernel_bound}
use Rattle.linearized.proofs.Codewords.{codeword_dim, points_indep}
use Rattle.linearized.proofs.Distances.{distance_shared}

each_mapped : {X Y : Type 0} (P : Y → Type 0) (f : X → Y) (L : List X) → Each (λ x. P (f x)) L → Each P (map f L)
each_mapped P f [] h = tt
each_mapped P f (x ∷ L) (h, hs) = (h, each_mapped P f L hs)

module _ {S : Type 0} (G : Field S) where
  open G use {zero}

  pub message_past : (u : List S) {k : ℕ} → length u ≡ k → (n : ℕ) → k ≤ n → at G u n ≡ zero
  message_past u long n l = get_or-eq_default u zero (let le : length u ≤ n = omega arith in le)

  -- messages of k symbols with equal coefficients
  pub message_same : (k : ℕ) (u w : List S) → length u ≡ k → length w ≡ k → ((n : ℕ) → n < k → at G u n ≡ at G w n) → u ≡ w
  message_same k u w lu lw same = ext_get_or zero u w (lu ∙ sym lw) (λ n l. same n (omega arith))

module _ {K S : Type 0} {A : Alphabet K S} (laws : Lawful A) where
  open A use {symbols as G, m}
  open G use {zero, add, neg}

  -- a polynomial of at most s coefficients that vanishes on what a codeword space shares with U, in dimension s, is zero
  pub shared_roots : (ℓ : ℕ) {s : ℕ} {U : Packet S → Type 0} (u f : List S) → IsDim (packet_rows A) (Meet (packet_rows A) U (Codeword A ℓ u)) s → counted G f ≤ s →
      ((p : Packet S) → U p → Codeword A ℓ u p → value A f (point A p.x) ≡ zero) → Null G f
  shared_roots ℓ {s} {U} u f dim-meet few vanish =
      let B = dim_basis (packet_laws laws) dim-meet in
      let M = B.rows in
      let free = points_indep laws ℓ u M (λ p x. (B.inside p x).1) B.indep in
      kernel_bound laws (map (λ p. point A p.x) M) f free (omega (arith, length-map M (λ p. point A p.x), B.many))
      (each_mapped (λ x. value A f x ≡ zero) (λ p. point A p.x) M (roots M (within_refl (packet_laws laws) M) (λ p x. B.inside p x)))
    where
      roots : {M : List (Packet S)} (L : List (Packet S)) → ListWithin (packet_rows A) L M → ((p : Packet S) → InSpan (packet_rows A) M p → Meet (packet_rows A) U (Codeword A ℓ u) p) →
          Each (λ p. value A f (point A p.x) ≡ zero) L
      roots [] within_nil inside = tt
      roots (p ∷ L) (within_cons x xs) inside = (let (in-U, in-V) = inside p x in vanish p in-U in-V, roots L xs inside)

  -- codeword spaces of different messages share less than k dimensions
  pub different_shared : (k ℓ s : ℕ) (u w : List S) → length u ≡ k → length w ≡ k → ¬ (u ≡ w) →
      IsDim (packet_rows A) (Meet (packet_rows A) (Codeword A ℓ u) (Codeword A ℓ w)) s → s < k
  different_shared k ℓ s u w lu lw differ dim-meet = elim (dec_lt s k) [
    | yes l ↦ l
    | no l ↦
        let few : counted G (difference G u w) ≤ s = counted_least G (difference G u w) s (λ n j.
        at_difference G u w n ∙ ap₂ (λ a b. add a (neg b)) (message_past G u lu n (omega arith)) (message_past G w lw n (omega arith)) ∙ G.add_neg zero) in
        let null : Null G (difference G u w) = shared_roots ℓ w (difference G u w) dim-meet few
        (λ p in-u in-w. value_difference laws u w _ ∙ ap (λ y. add (value A u (point A p.x)) (neg y)) (sym in-w.1 ∙ in-u.1) ∙ G.add_neg _) in
        absurd (differ (message_same G k u w lu lw (λ n _. difference_zero G _ _ (sym (at_difference G u w n) ∙ null n))))
  ]

  pub minimum_distance : (k ℓ d : ℕ) → ℓ ≤ m → k ≤ ℓ → (u w : List S) → length u ≡ k → length w ≡ k → ¬ (u ≡ w) →
      Distance (packet_rows A) (Codeword A ℓ u) (Codeword A ℓ w) d → 2 * (ℓ - k + 1) ≤ d
  minimum_distance k ℓ d fits k-fits u w lu lw differ apart =
      let far = (distance_shared (packet_laws laws) (codeword_dim laws ℓ fits u) (codeword_dim laws ℓ fits w) apart.is_shared).0 apart in
      omega (arith, different_shared k ℓ apart.shared u w lu lw differ apart.is_shared)

  -- a codeword space is within its own message's radius
  pub codeword_within : (k ℓ : ℕ) → ℓ ≤ m → k ≤ ℓ → (u : List S) → length u ≡ k → Within A k ℓ (Codeword A ℓ u) u
  codeword_within k ℓ fits k-fits u long =
      let dim_V = codeword_dim laws ℓ fits u in
      record {
        long = long;
        distance = 0;
        apart = (distance_shared (packet_laws laws) dim_V dim_V (dim_same (packet_rows A) (λ p. (λ c. (c, c), λ c. c.0)) dim_V)).1 (omega arith);
        close = omega arith;
      }
