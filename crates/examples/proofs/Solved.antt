-- What the plain machine's solve answers on packets of known dimensions.
use Rattle.std.proofs.Common.{◌≡◌, ℕ, ◌+◌, ◌-◌, ◌*◌, ◌^◌, ◌<◌, ◌≤◌, Bool, true, not, T, eqb, ltb, List, [], ◌∷◌, ◌++◌, map, length, drop, Ok, Err, sym, refl, ap, ◌∙◌, subst, ap₂, inl, inr, arith, ltb→lt, eq-eqb}
use Rattle.linear.specs.Span.{Each, Span, IsDim}
use Rattle.linear.proofs.Dims.{spans_self}
use Rattle.linear.proofs.Spans.{InSpan, span_nil, Within as ListWithin, within_cons, within_refl, to_span, from_span}
use Rattle.linear.proofs.Forms.{dim_exists}
use Rattle.field.specs.Alphabet.{Alphabet, Lawful, symbol_rows}
use Rattle.field.proofs.Symbols.{symbol_laws}
use Rattle.packet.specs.declared.Packet.{Packet}
use Rattle.packet.specs.Packets.{packet_rows}
use Rattle.packet.specs.Headers.{HeaderBelow}
use Rattle.linearized.specs.Code.{residual}
use Rattle.linearized.specs.Distance.{Within, lost, foreign, faults}
use Rattle.linearized.proofs.Residuals.{shared_measured, within_test}
use Rattle.linearized.proofs.Decoding.{within_reach}
use Rattle.answer.specs.declared.refusal.Refusal.{Refusal}
use Rattle.answer.specs.declared.refusal.Refusal.TheVariants.{DimensionLow, DimensionHigh, NoneNear}
use Rattle.answer.specs.Refusals.{First, NoCause}
use Rattle.collector.specs.Answers.{solve_causes}
use Rattle.collector.specs.Machine.{solved, Machine, Holds, Plain, shut_refusals}
use Rattle.collector.proofs.Runs.{cell_apart}
use Rattle.binary.proofs.Tests.{both, both_left, both_right, below, below_at}

-- a number that holds packets is open
open_ready : {S : Type 0} (m : Machine S) {L : List (Packet S)} → Holds m 0 L → NoCause (shut_refusals m 0)
open_ready m is = (λ h. omega arith, (λ none. cell_apart (sym is ∙ none), tt))

module _ {K S : Type 0} (A : Alphabet K S) where
  abbrev pub headers? : ℕ → List (Packet S) → Bool
  headers? ℓ [] = true
  headers? ℓ (p ∷ L) = both (ltb (A.code p.x) (A.q ^ ℓ)) (headers? ℓ L)

  pub headers_checked : (ℓ : ℕ) (L : List (Packet S)) → T (headers? ℓ L) → Each (HeaderBelow A ℓ) L
  headers_checked ℓ [] t = tt
  headers_checked ℓ (p ∷ L) t = (ltb→lt _ _ (both_left _ _ t), headers_checked ℓ L (both_right _ _ t))

  -- the packets lie on the polynomial u
  abbrev pub fits? : List S → List (Packet S) → Bool
  fits? u [] = true
  fits? u (p ∷ L) = both (eqb (A.code (residual A u p)) 0) (fits? u L)

module _ {K S : Type 0} {A : Alphabet K S} (laws : Lawful A) (u : List S) where
  nothing : {v : S} → InSpan (symbol_rows A) [] v → v ≡ A.symbols.zero
  nothing (span_nil e) = e

  -- a space of dimension 0 has no row but zero
  only_zero : (N : List S) {v : S} → IsDim (symbol_rows A) (Span (symbol_rows A) N) 0 → InSpan (symbol_rows A) N v → v ≡ A.symbols.zero
  only_zero N {v} (([], spans, is), least) s = nothing (from_span [] ((spans v).1 (to_span s)))
  only_zero N ((x ∷ X, spans, is), least) s = absurd (let no_rows : ⊥ = omega arith in no_rows)

  zeros_fit : (M : List (Packet S)) {N : List S} → ListWithin (symbol_rows A) (map (residual A u) M) N → IsDim (symbol_rows A) (Span (symbol_rows A) N) 0 → fits? A u M ≡ true
  unfolding both
  zeros_fit [] within none = refl
  zeros_fit (p ∷ M) {N} (within_cons s within) none =
      let zero = ap A.code (only_zero N none s) ∙ laws.codes.code_zero in ap₂ both (eq-eqb _ 0 zero) (zeros_fit M within none)

-- packets L of dimension r, with headers below q^ℓ
module _ {K S : Type 0} {A : Alphabet K S} (laws : Lawful A) (k ℓ : ℕ) (fits : ℓ ≤ A.m) (L : List (Packet S)) (headers : Each (HeaderBelow A ℓ) L)
    (r : ℕ) (dim : IsDim (packet_rows A) (Span (packet_rows A) L) r) where
  abbrev U : Packet S → Type 0
  U = Span (packet_rows A) L

  refused : {e : Refusal} (m : Machine S) (output : List S) → Holds m 0 L → First (solve_causes A k ℓ U r (length output)) e → Plain A k ℓ m (solved 0 output output (Err e)) m
  refused m output is first = (inr (L, r, open_ready m is, is, dim, first), refl, λ c. refl)

  pub low_refused : r < k → (m : Machine S) (output : List S) → Holds m 0 L → k ≤ length output → Plain A k ℓ m (solved 0 output output (Err (DimensionLow r))) m
  low_refused low m output is room = refused m output is (inr (λ short. omega arith, inl (low, refl)))

  pub high_refused : k ≤ r → 2 * ℓ < r + k → (m : Machine S) (output : List S) → Holds m 0 L → k ≤ length output → Plain A k ℓ m (solved 0 output output (Err (DimensionHigh r))) m
  high_refused some high m output is room = refused m output is (inr (λ short. omega arith, inr (λ low. omega arith, inl (high, refl))))

  pub none_refused : k ≤ r → r + k ≤ 2 * ℓ → ((u : List S) → ¬ Within A k ℓ U u) → (m : Machine S) (output : List S) → Holds m 0 L → k ≤ length output →
      Plain A k ℓ m (solved 0 output output (Err (NoneNear r))) m
  none_refused some few none m output is room =
      refused m output is (inr (λ short. omega arith, inr (λ low. omega arith, inr (λ high. omega arith, inl (none, refl)))))

  -- the residuals of u have dimension b
  module _ (u : List S) (long : length u ≡ k) {b : ℕ} (rank : IsDim (symbol_rows A) (Span (symbol_rows A) (map (residual A u) L)) b) where
    near : 2 * b + k ≤ r → Within A k ℓ U u
    near close = (within_test laws ℓ fits L (spans_self (packet_rows A) L) headers u dim rank long).1 close

    pub given : 2 * b + k ≤ r → (m : Machine S) (output : List S) → Holds m 0 L → k ≤ length output →
        Plain A k ℓ m (solved 0 output (u ++ drop k output) (Ok (record { dimension = r; lost = lost ℓ (r - b); foreign = foreign r (r - b); faults = faults ℓ r (r - b) }))) m
    given close m output is room =
        let (some, few) = within_reach laws k ℓ r fits dim u (near close) in (
          open_ready m is,
          (
            L,
            r,
            is,
            dim,
            (λ short. omega arith, (λ low. omega arith, (λ high. omega arith, (λ none. none u (near close), tt)))),
            record {
              message = u;
              within = near close;
              is_written = refl;
              shared = r - b;
              is_shared = (shared_measured laws ℓ fits L (spans_self (packet_rows A) L) headers u dim rank).1;
              is_dimension = refl;
              is_lost = refl;
              is_foreign = refl;
              is_faults = refl;
            },
          ),
          λ c. refl,
        )

  -- where the radius allows no residual, the packets lie on a message that is near
  near_fits : r < k + 2 → (u : List S) → Within A k ℓ U u → fits? A u L ≡ true
  near_fits tight u within =
      let residuals = map (residual A u) L in
      let (b, rank) = dim_exists (symbol_laws laws) residuals (spans_self (symbol_rows A) residuals) in
      let close = (within_test laws ℓ fits L (spans_self (packet_rows A) L) headers u dim rank within.long).0 within in
      let none : b ≡ 0 = omega arith in
      zeros_fit laws u L (within_refl (symbol_laws laws) residuals) (subst (IsDim (symbol_rows A) (Span (symbol_rows A) residuals)) none rank)

  -- messages of one symbol, each tried by its code
  pub none_tried : k ≡ 1 → r < 3 → T (below (λ n. not (fits? A (A.element n ∷ []) L)) A.size) → (u : List S) → ¬ Within A k ℓ U u
  none_tried one tight t u within = go u within.long (near_fits (omega arith) u within)
    where
      go : (u : List S) → length u ≡ k → ¬ (fits? A u L ≡ true)
      go [] long on = omega arith
      go (x ∷ []) long on =
          let off = below_at _ A.size t (A.code x) (laws.codes.code_less x) in
          subst (λ b. T (not b)) (ap (λ y. fits? A (y ∷ []) L) (laws.codes.element_code x) ∙ on) off
      go (x ∷ (y ∷ u)) long on = omega arith
