-- What the plain machine's solve answers, exactly.
use Rattle.std.proofs.Common.{◌≡◌, ℕ, ◌+◌, ◌-◌, ◌<◌, ◌≤◌, ◌↔◌, List, ◌++◌, length, drop, Ok, Err, Result, sym, refl, ap, ◌∙◌, subst, inl, inr, arith}
use Rattle.linear.specs.Span.{Span, SameSpan, IsDim, Meet}
use Rattle.linear.proofs.Dims.{dim_unique, dim_same}
use Rattle.field.specs.Alphabet.{Alphabet, Lawful}
use Rattle.packet.specs.declared.Packet.{Packet}
use Rattle.packet.specs.Packets.{packet_rows}
use Rattle.linearized.specs.Code.{Codeword, packets}
use Rattle.linearized.specs.Distance.{Within, lost, foreign, faults}
use Rattle.linearized.proofs.Codewords.{codeword_spanned, codeword_dim}
use Rattle.linearized.proofs.Messages.{codeword_within}
use Rattle.linearized.proofs.Decoding.{within_unique, within_reach}
use Rattle.answer.specs.declared.refusal.Refusal.{Refusal}
use Rattle.answer.specs.declared.Solved.{Solved}
use Rattle.answer.specs.Refusals.{First}
use Rattle.collector.specs.Answers.{SolveAnswer, solve_causes}
use Rattle.collector.specs.Machine.{shut, holds, solved, Machine, Holds, Plain}
use Rattle.collector.specs.Machine as machine
use Rattle.collector.specs.Session.{Allowed}
use Rattle.collector.specs.Laws.{SolveLaws, Exact}
use Rattle.collector.proofs.Spaces.{within_same}
use Rattle.collector.proofs.Runs.{cell_apart, holds_same}

module _ {K S : Type 0} {A : Alphabet K S} (laws : Lawful A) {k ℓ : ℕ} (allowed : Allowed k ℓ A.m) (ps : List (Packet S)) where
  abbrev U : Packet S → Type 0
  U = Span (packet_rows A) ps

  -- every reason not to answer excludes a message within the radius
  refused_none : {r places : ℕ} {e : Refusal} → IsDim (packet_rows A) U r → k ≤ places → First (solve_causes A k ℓ U r places) e → (u : List S) → ¬ Within A k ℓ U u
  refused_none dim room (inl (short, is)) u w = omega arith
  refused_none {r} dim room (inr (n, inl (low, is))) u w = omega (arith, within_reach laws k ℓ r allowed.2 dim u w)
  refused_none {r} dim room (inr (n, inr (o, inl (high, is)))) u w = omega (arith, within_reach laws k ℓ r allowed.2 dim u w)
  refused_none dim room (inr (n, inr (o, inr (p, inl (none, is))))) u w = none u w
  refused_none dim room (inr (n, inr (o, inr (p, inr (q, f))))) u w = absurd f

  module _ {r : ℕ} (dim : IsDim (packet_rows A) U r) where
    one : (u w : List S) → Within A k ℓ U u → Within A k ℓ U w → u ≡ w
    one u w = within_unique laws k ℓ r allowed.2 U dim u w

    module _ {output written : List S} {answer : Solved} (gives : SolveAnswer A k ℓ U r output written answer) where
      wrote : (u : List S) → Within A k ℓ U u → written ≡ u ++ drop k output
      wrote u w = gives.is_written ∙ ap (λ (m : List S). m ++ drop k output) (one gives.message u gives.within w)

      counts : (u : List S) (t shared : ℕ) → Within A k ℓ U u → IsDim (packet_rows A) U t → IsDim (packet_rows A) (Meet (packet_rows A) U (Codeword A ℓ u)) shared
          → answer ≡ record { dimension = t; lost = lost ℓ shared; foreign = foreign t shared; faults = faults ℓ t shared }
      counts u t shared w is-t is_shared =
          let same-r : r ≡ t = dim_unique (packet_rows A) U dim is-t in
          let message : gives.message ≡ u = one gives.message u gives.within w in
          let same_s : gives.shared ≡ shared = dim_unique (packet_rows A) (Meet (packet_rows A) U (Codeword A ℓ u))
          (subst (λ m. IsDim (packet_rows A) (Meet (packet_rows A) U (Codeword A ℓ m)) gives.shared) message gives.is_shared) is_shared in
          let d : answer.dimension ≡ t = gives.is_dimension ∙ same-r in
          let l : answer.lost ≡ lost ℓ shared = gives.is_lost ∙ ap (lost ℓ) same_s in
          let f : answer.foreign ≡ foreign t shared = gives.is_foreign ∙ ap (λ x. foreign x gives.shared) same-r ∙ ap (foreign t) same_s in
          let a : answer.faults ≡ faults ℓ t shared = gives.is_faults ∙ ap (λ x. faults ℓ x gives.shared) same-r ∙ ap (faults ℓ t) same_s in
          λ i. record { dimension = d i; lost = l i; foreign = f i; faults = a i }

  -- packets that span a block's codeword space
  module _ (u : List S) (long : length u ≡ k) (same : SameSpan (packet_rows A) ps (packets A ℓ u)) where
    spanned : (p : Packet S) → U p ↔ Codeword A ℓ u p
    spanned p =
        let word = codeword_spanned laws ℓ allowed.2 u p in (λ s. word.0 ((same p).0 s), λ s. (same p).1 (word.1 s))

    own_within : Within A k ℓ U u
    own_within = within_same A (λ p. ((spanned p).1, (spanned p).0)) (codeword_within laws k ℓ allowed.2 allowed.1 u long)

    own_dim : IsDim (packet_rows A) U ℓ
    own_dim = dim_same (packet_rows A) (λ p. ((spanned p).1, (spanned p).0)) (codeword_dim laws ℓ allowed.2 u)

    own_shared : IsDim (packet_rows A) (Meet (packet_rows A) U (Codeword A ℓ u)) ℓ
    own_shared = dim_same (packet_rows A) (λ p. (λ c. ((spanned p).1 c, c), λ (s, c). c)) (codeword_dim laws ℓ allowed.2 u)

    own_counts : record { dimension = ℓ; lost = lost ℓ ℓ; foreign = foreign ℓ ℓ; faults = faults ℓ ℓ ℓ } ≡ (let x : Solved = record { dimension = ℓ; lost = 0; foreign = 0; faults = 0 } in x)
    own_counts = let z : ℓ - ℓ ≡ 0 = omega arith in λ i. record { dimension = ℓ; lost = z i; foreign = z i; faults = z i + z i }

  solve_laws : (r : ℕ) → IsDim (packet_rows A) U r → (output written : List S) (answer : Result Solved Refusal) → k ≤ length output
      → ((a : Solved) → answer ≡ Ok a → SolveAnswer A k ℓ U r output written a) → ((e : Refusal) → answer ≡ Err e → First (solve_causes A k ℓ U r (length output)) e)
      → SolveLaws A k ℓ ps output written answer
  solve_laws r dim output written (Ok a) room gives refuses = record {
    exact = (λ _. ((gives a refl).message, (gives a refl).within), λ _. (a, refl));
    only = one dim;
    wrote = wrote dim (gives a refl);
    counts = λ b u t shared is w is-t is_shared. let same : b ≡ a = cc in same ∙ counts dim (gives a refl) u t shared w is-t is_shared;
    back = λ u long same. (
      ap Ok (counts dim (gives a refl) u ℓ ℓ (own_within u long same) (own_dim u long same) (own_shared u long same) ∙ own_counts u long same),
      wrote dim (gives a refl) u (own_within u long same),
    );
  }
  solve_laws r dim output written (Err e) room gives refuses =
      let none = refused_none dim room (refuses e refl) in
      record {
        exact = (λ (a, is). absurd (cc), λ (u, w). absurd (none u w));
        only = one dim;
        wrote = λ u w. absurd (none u w);
        counts = λ a u t shared is w is-t is_shared. absurd (none u w);
        back = λ u long same. absurd (none u (own_within u long same));
      }

module _ {K S : Type 0} {A : Alphabet K S} (laws : Lawful A) (k ℓ : ℕ) (allowed : Allowed k ℓ A.m) where
  -- nothing refuses a call on an open number before its own reasons
  not_reached : (m : Machine S) (b : ℕ) {ps : List (Packet S)} (e : Refusal) → b < 8 → Holds m b ps → ¬ First (machine.shut_refusals m b) e
  not_reached m b e h is (inl (high, q)) = omega arith
  not_reached m b e h is (inr (n, inl (z, q))) = cell_apart (sym is ∙ z)
  not_reached m b e h is (inr (n, inr (o, f))) = f

  pub exact : Exact A k ℓ
  exact m n b ps output written (Ok a) (none, (qs, r, is, dim, no_cause, gives), still) h at room =
      let same : qs ≡ ps = holds_same (sym is ∙ at) in
      let dim-ps = subst (λ (l : List (Packet S)). IsDim (packet_rows A) (Span (packet_rows A) l) r) same dim in
      let gives-ps = subst (λ (l : List (Packet S)). SolveAnswer A k ℓ (Span (packet_rows A) l) r output written a) same gives in
      solve_laws laws allowed ps r dim-ps output written (Ok a) room (λ b e. let eq : a ≡ b = cc in subst (SolveAnswer A k ℓ (Span (packet_rows A) ps) r output written) eq gives-ps)
      (λ e f. absurd (cc))
  exact m n b ps output written (Err e) (inl f, same, still) h at room = absurd (not_reached m b e h at f)
  exact m n b ps output written (Err e) (inr (qs, r, none, is, dim, f), left, still) h at room =
      let same : qs ≡ ps = holds_same (sym is ∙ at) in
      let dim-ps = subst (λ (l : List (Packet S)). IsDim (packet_rows A) (Span (packet_rows A) l) r) same dim in
      let f_ps = subst (λ (l : List (Packet S)). First (solve_causes A k ℓ (Span (packet_rows A) l) r (length output)) e) same f in
      solve_laws laws allowed ps r dim-ps output written (Err e) room (λ a g. absurd (cc))
      (λ x g. let eq : e ≡ x = cc in subst (First (solve_causes A k ℓ (Span (packet_rows A) ps) r (length output))) eq f_ps)
