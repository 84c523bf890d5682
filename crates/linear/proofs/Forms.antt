-- Reduced forms: every space with a list has one and only one, with as many rows as the dimension; what follows for dimensions.
use Rattle.std.proofs.Common.{◌≡◌, ℕ, suc, ◌+◌, ◌<◌, ◌≤◌, ◌↔◌, List, ◌∷◌, length, sym, ◌∙◌, subst, add-one, arith}
use mathlib.Core.Logic.Dec
use native.Mathlib.Decide.{dec_lt, dec_le}
use Rattle.linear.specs.Field.{Field}
use Rattle.linear.specs.Rows.{Rows, RowLaws}
use Rattle.linear.specs.Span.{Span, Spans, IsDim, Independent}
use Rattle.linear.specs.Reduced.{Reduced, ReducedForm}
use Rattle.linear.proofs.Spans.{InSpan, to_span, from_span, to_independent, span_head, span_skip, span_trans}
use Rattle.linear.proofs.Dims.{Basis, indep_basis, basis_same, basis_dim, dim_unique, dim_known, dim_more, spans_within}
use Rattle.linear.proofs.Stairs.{Stairs, stairs_nil, stairs_cons, stairs_indep, stairs_unique}
use Rattle.linear.proofs.Numbered.{to_reduced, from_reduced}
use Rattle.linear.proofs.Adding.{stairs_exist, span?}

module _ {K V : Type 0} {F : Field K} {R : Rows K V} (laws : RowLaws F R) where
  pub reduced_independent : {L : List V} → Reduced F R L → Independent R F L
  reduced_independent r = to_independent laws (stairs_indep laws (from_reduced r))

  pub reduced_basis : {U : V → Type 0} {L : List V} → ReducedForm F R U L → Basis R U (length L)
  reduced_basis (r, s) = basis_same laws s (indep_basis laws (stairs_indep laws (from_reduced r)))

  pub reduced_dim : {U : V → Type 0} {L : List V} → ReducedForm F R U L → IsDim R U (length L)
  reduced_dim form = basis_dim laws (reduced_basis form)

  pub reduced_exists : {U : V → Type 0} (L : List V) → Spans R L U → (M : List V) × ReducedForm F R U M
  reduced_exists L s =
      let (ps, M, st, t, u) = stairs_exist laws L in
      (M, (to_reduced st, λ v. (λ x. (s v).0 (to_span (span_trans laws u (from_span M x))), λ x. to_span (span_trans laws t (from_span L ((s v).1 x))))))

  pub reduced_unique : {U : V → Type 0} (L M : List V) → ReducedForm F R U L → ReducedForm F R U M → L ≡ M
  reduced_unique L M (r, s) (q, t) =
      (stairs_unique laws (from_reduced r) (from_reduced q) (spans_within laws L M s t (λ v u. u)) (spans_within laws M L t s (λ v u. u))).1

  pub dim_exists : {U : V → Type 0} (L : List V) → Spans R L U → (d : ℕ) × IsDim R U d
  dim_exists L s = let (M, form) = reduced_exists L s in (length M, reduced_dim form)

  -- rows that lead from m on
  stairs_fit : {m : ℕ} {ps : List ℕ} {L : List V} → Stairs F R m ps L → m ≤ R.width → length L + m ≤ R.width
  stairs_fit stairs_nil h = omega arith
  stairs_fit (stairs_cons mp ld za st) h = let k = stairs_fit st ld.0 in omega arith

  -- rows that lead from m on, and not from a to b
  stairs_gap : {m : ℕ} {ps : List ℕ} {L : List V} (a b : ℕ) → Stairs F R m ps L → m ≤ a → a ≤ b → b ≤ R.width
      → ((v : V) → InSpan R L v → (i : ℕ) → a ≤ i → i < b → R.coord v i ≡ F.zero) → length L + m + b ≤ R.width + a
  stairs_gap a b stairs_nil h k l z = omega arith
  stairs_gap {m} a b (stairs_cons {p = p} {v = v} {L = L} mp ld za st) h k l z =
      at (dec_lt p a) (dec_le b p) (λ x. stairs_gap a b st x k l (λ u s. z u (span_skip laws v s))) (stairs_fit st ld.0)
    where
      at : Dec (p < a) → Dec (b ≤ p) → (p < a → length L + suc p + b ≤ R.width + a) → length L + suc p ≤ R.width → suc (length L) + m + b ≤ R.width + a
      at (yes x) d f g = omega (arith, f x)
      at (no x) (yes y) f g = omega arith
      at (no x) (no y) f g = absurd (F.one_not_zero (sym ld.1 ∙ z v (span_head laws v L) p (omega arith) (omega arith)))

  -- a space whose rows are zero from the place a up to b
  pub dim_gap : {U : V → Type 0} {d : ℕ} (a b : ℕ) → a ≤ b → b ≤ R.width → ((v : V) → U v → (i : ℕ) → a ≤ i → i < b → R.coord v i ≡ F.zero)
      → IsDim R U d → d + b ≤ R.width + a
  dim_gap {U} a b h k z hd =
      let ((L, s, l), least) = hd in
      let (M, (r, t)) = reduced_exists L s in
      let e = dim_unique R U hd (reduced_dim (r, t)) in
      omega (arith, stairs_gap a b (from_reduced r) (omega arith) h k (λ v x. z v ((t v).0 (to_span x))))

  pub dim_width : {U : V → Type 0} {d : ℕ} → IsDim R U d → d ≤ R.width
  dim_width hd = let h = dim_gap 0 0 (omega arith) (omega arith) (λ v u i a b. absurd (omega arith)) hd in omega arith

  pub span_decided : (L : List V) (v : V) → Dec (Span R L v)
  span_decided L v = Dec.of_iff (to_span, from_span L) (span? laws L v)

  -- one row more
  pub dim_adding : (L : List V) {v : V} {d : ℕ} → IsDim R (Span R L) d →
      (IsDim R (Span R (v ∷ L)) (d + 1) ↔ (¬ Span R L v)) × (IsDim R (Span R (v ∷ L)) d ↔ Span R L v)
  dim_adding L {v} {d} hd = (
    (λ more s. let e : d + 1 ≡ d = dim_unique R (Span R (v ∷ L)) more (dim_known laws L hd s) in omega arith, λ h. subst (IsDim R (Span R (v ∷ L))) (sym (add-one d)) (dim_more laws L hd h)),
    (λ same. at same (span_decided L v), dim_known laws L hd),
  )
    where
      at : IsDim R (Span R (v ∷ L)) d → Dec (Span R L v) → Span R L v
      at same (yes s) = s
      at same (no h) = let e : d ≡ suc d = dim_unique R (Span R (v ∷ L)) same (dim_more laws L hd h) in absurd (let b : ⊥ = omega arith in b)
