-- Dimension, by way of bases.
--   Basis U d    an independent list of d rows that spans U
use Rattle.std.proofs.Common.{◌≡◌, ℕ, suc, ◌≤◌, ◌↔◌, List, [], ◌∷◌, ◌++◌, length, refl, ap, subst, arith}
use Rattle.linear.specs.Field.{Field}
use Rattle.linear.specs.Rows.{Rows, RowLaws}
use Rattle.linear.specs.Span.{Span, Spans, SameSpan, IsDim}
use Rattle.linear.proofs.Spans.{InSpan, Within, Indep, indep_cons, to_span, from_span, span_trans, within_skip, within_refl, within_all, within_head, within_known, within_same, replace, indep_shorter, shortest_indep}

pub record Basis {K V : Type 0} (R : Rows K V) (U : V → Type 0) (d : ℕ) : Type 0 where
  pub rows : List V
  pub many : length rows ≡ d
  pub indep : Indep R rows
  pub inside : (v : V) → InSpan R rows v → U v
  pub covers : (v : V) → U v → InSpan R rows v

module _ {K V : Type 0} (R : Rows K V) where
  pub spans_self : (L : List V) → Spans R L (Span R L)
  spans_self L v = (λ s. s, λ s. s)

  pub dim_unique : (U : V → Type 0) {d e : ℕ} → IsDim R U d → IsDim R U e → d ≡ e
  dim_unique U {d} {e} ((L, s, l), least) ((M, t, k), first) = let x : d ≤ length M = least M t in let y : e ≤ length L = first L s in omega arith

  -- equal spaces have equal dimensions
  pub dim_same : {U W : V → Type 0} {d : ℕ} → ((v : V) → U v ↔ W v) → IsDim R U d → IsDim R W d
  dim_same e ((L, s, l), least) = (
    (L, λ v. (λ x. (e v).0 ((s v).0 x), λ x. (s v).1 ((e v).1 x)), l),
    λ M t. least M (λ v. (λ x. (e v).1 ((t v).0 x), λ x. (t v).1 ((e v).0 x))),
  )

module _ {K V : Type 0} {F : Field K} {R : Rows K V} (laws : RowLaws F R) where
  -- spaces with lists, one inside the other
  pub spans_within : {U W : V → Type 0} (L M : List V) → Spans R L U → Spans R M W → ((v : V) → U v → W v) → Within R L M
  spans_within L M s t f = within_all laws L (λ v x. from_span M ((t v).1 (f v ((s v).0 (to_span x)))))

  pub indep_basis : {L : List V} → Indep R L → Basis R (Span R L) (length L)
  indep_basis {L} i = record { rows = L; many = refl; indep = i; inside = λ v s. to_span s; covers = λ v s. from_span L s }

  pub basis_same : {U W : V → Type 0} {d : ℕ} → ((v : V) → U v ↔ W v) → Basis R U d → Basis R W d
  basis_same e b = record { rows = b.rows; many = b.many; indep = b.indep; inside = λ v s. (e v).0 (b.inside v s); covers = λ v s. b.covers v ((e v).1 s) }

  pub basis_within : {U W : V → Type 0} {d e : ℕ} (A : Basis R U d) (B : Basis R W e) → ((v : V) → U v → W v) → Within R A.rows B.rows
  basis_within A B f = within_all laws A.rows (λ v s. B.covers v (f v (A.inside v s)))

  pub basis_spans : {U : V → Type 0} {d : ℕ} (B : Basis R U d) → Spans R B.rows U
  basis_spans B v = (λ s. B.inside v (from_span B.rows s), λ u. to_span (B.covers v u))

  pub basis_dim : {U : V → Type 0} {d : ℕ} → Basis R U d → IsDim R U d
  basis_dim {U} {d} B = (
    (B.rows, basis_spans B, B.many),
    λ M s. let k = indep_shorter laws B.indep (spans_within B.rows M (basis_spans B) s (λ v u. u)) in let l = B.many in omega arith,
  )

  pub dim_basis : {U : V → Type 0} {d : ℕ} → IsDim R U d → Basis R U d
  dim_basis {U} {d} ((L, s, l), least) = record {
    rows = L;
    many = l;
    indep = shortest_indep laws L (λ M t u.
        let k : d ≤ length M = least M (λ v. (λ x. (s v).0 (to_span (span_trans laws u (from_span M x))), λ x. to_span (span_trans laws t (from_span L ((s v).1 x))))) in
        omega arith);
    inside = λ v x. (s v).0 (to_span x);
    covers = λ v x. from_span L ((s v).1 x);
  }

  pub dim_mono : {U W : V → Type 0} {d e : ℕ} → ((v : V) → U v → W v) → IsDim R U d → IsDim R W e → d ≤ e
  dim_mono f hd he =
      let A = dim_basis hd in
      let B = dim_basis he in
      omega (arith, indep_shorter laws A.indep (basis_within A B f), A.many, B.many)

  -- a space inside another of the same dimension is the other
  pub dim_full : {U W : V → Type 0} {d : ℕ} → ((v : V) → U v → W v) → IsDim R U d → IsDim R W d → (v : V) → W v → U v
  dim_full f hd he v w =
      let A = dim_basis hd in
      let B = dim_basis he in
      let x = replace laws A.indep (basis_within A B f) in
      let none_left : x.left ≡ [] = empty x.left (omega (arith, x.many, A.many, B.many)) in
      A.inside v (span_trans laws (subst (λ Y. Within R B.rows (Y ++ A.rows)) none_left x.spans) (B.covers v w))
    where
      empty : (L : List V) → length L ≡ 0 → L ≡ []
      empty [] e = refl
      empty (x ∷ L) e = absurd (omega arith)

  -- a row more, outside the span
  pub dim_more : (L : List V) {v : V} {d : ℕ} → IsDim R (Span R L) d → ¬ Span R L v → IsDim R (Span R (v ∷ L)) (suc d)
  dim_more L {v} {d} hd h =
      let A = dim_basis hd in
      let there = within_all laws L (λ u s. A.covers u (to_span s)) in
      let back = within_all laws A.rows (λ u s. from_span L (A.inside u s)) in
      let B : Basis R (Span R (v ∷ L)) (suc d) = record {
        rows = v ∷ A.rows;
        many = ap suc A.many;
        indep = indep_cons (λ s. h (A.inside v s)) A.indep;
        inside = λ u s. to_span (span_trans laws (within_head laws v back) s);
        covers = λ u s. span_trans laws (within_head laws v there) (from_span (v ∷ L) s);
      } in basis_dim B

  -- and inside
  pub span_known : (L : List V) {v : V} → Span R L v → SameSpan R L (v ∷ L)
  span_known L {v} s = within_same laws (within_skip laws v (within_refl laws L)) (within_known laws (from_span L s))

  pub dim_known : (L : List V) {v : V} {d : ℕ} → IsDim R (Span R L) d → Span R L v → IsDim R (Span R (v ∷ L)) d
  dim_known L hd s = dim_same R (span_known L s) hd
