-- Sums of spaces, and the dimensions of sum and intersection.
use Rattle.std.proofs.Common.{◌≡◌, ℕ, ◌+◌, List, ◌++◌, length, sym, refl, ap, ◌∙◌, subst, arith, length-append}
use Rattle.linear.specs.Field.{Field}
use Rattle.linear.specs.Rows.{Rows, RowLaws, minus}
use Rattle.linear.specs.Span.{Span, Spans, IsDim, Sum, Meet}
use Rattle.linear.proofs.Rows.{minus_sum}
use Rattle.linear.proofs.Spans.{InSpan, Within, within_nil, within_cons, Indep, indep_cons, to_span, from_span, within_append, span_plus, span_minus, span_trans, within_trans, within_left, within_right, span_parts, replace, Replaced, tight_indep}
use Rattle.linear.proofs.Dims.{Basis, basis_within, basis_dim, dim_basis, dim_unique}

module _ {K V : Type 0} {F : Field K} {R : Rows K V} (laws : RowLaws F R) where
  pub sum_spans : (L M : List V) → Spans R (L ++ M) (Sum R (Span R L) (Span R M))
  sum_spans L M v = (
    λ s. let (u, w, su, sw, e) = span_parts laws L M (from_span (L ++ M) s) in (u, w, to_span su, to_span sw, e),
    λ (u, w, su, sw, e).
        subst (Span R (L ++ M)) e
        (to_span (span_plus laws (span_trans laws (within_left laws L M) (from_span L su)) (span_trans laws (within_right laws L M) (from_span M sw)))),
  )

  -- X, of a space that shares with the span of Y and C no more than the span of C
  pub indep_joint : {X A : List V} (Y C : List V) → Within R X A → Indep R (X ++ C) → Indep R (Y ++ C)
      → ((w : V) → InSpan R A w → InSpan R (Y ++ C) w → InSpan R C w) → Indep R (X ++ (Y ++ C))
  indep_joint Y C within_nil i j k = j
  indep_joint {A = A} Y C (within_cons {L = X} sx tx) (indep_cons h i) j k =
      indep_cons
      (λ s.
      let (u, w, su, sw, e) = span_parts laws X (Y ++ C) s in
      let aw : InSpan R A w = subst (InSpan R A) (ap (λ y. minus F R y F.one u) (sym e) ∙ minus_sum laws u w) (span_minus laws F.one sx (span_trans laws tx su)) in
      h (subst (InSpan R (X ++ C)) e (span_plus laws (span_trans laws (within_left laws X C) su) (span_trans laws (within_right laws X C) (k w aw sw)))))
      (indep_joint Y C tx i j k)

  -- rows that a basis of a space takes besides those of a smaller one
  pub rest_indep : {A C : List V} → Indep R A → (x : Replaced laws C A) → Indep R (x.left ++ C)
  rest_indep {C = C} i x = tight_indep laws (x.left ++ C) i x.spans (omega (arith, length-append x.left C, x.many))

  pub sum_basis : {U W : V → Type 0} {a b c : ℕ} → Basis R U a → Basis R W b → Basis R (Meet R U W) c → (s : ℕ) × Basis R (Sum R U W) s × (s + c ≡ a + b)
  sum_basis {U} {W} A B C =
      let x = replace laws C.indep (basis_within laws C A (λ v m. m.0)) in
      let y = replace laws C.indep (basis_within laws C B (λ v m. m.1)) in
      let X = x.left in
      let Y = y.left in
      let D = C.rows in
      let J = X ++ (Y ++ D) in
      let yd-b : Within R (Y ++ D) B.rows = within_append y.of (basis_within laws C B (λ v m. m.1)) in
      let yd-j : Within R (Y ++ D) J = within_right laws X (Y ++ D) in
      let a-j : Within R A.rows J = within_trans laws x.spans (within_append (within_left laws X (Y ++ D)) (within_trans laws (within_right laws Y D) yd-j)) in
      let b-j : Within R B.rows J = within_trans laws y.spans yd-j in
      let all : Basis R (Sum R U W) (length J) = record {
        rows = J;
        many = refl;
        indep = indep_joint Y D x.of (rest_indep A.indep x) (rest_indep B.indep y)
            (λ w sa sy. C.covers w (A.inside w sa, B.inside w (span_trans laws yd-b sy)));
        inside = λ v s.
            let (u, w, su, sw, e) = span_parts laws X (Y ++ D) s in
            (u, w, A.inside u (span_trans laws x.of su), B.inside w (span_trans laws yd-b sw), e);
        covers = λ v (u, w, uu, ww, e). subst (InSpan R J) e (span_plus laws (span_trans laws a-j (A.covers u uu)) (span_trans laws b-j (B.covers w ww)));
      } in
      (length J, all, omega (arith, length-append X (Y ++ D), length-append Y D, x.many, y.many, A.many, B.many, C.many))

  pub dim_sum_meet : {U W : V → Type 0} {a b s c : ℕ} → IsDim R U a → IsDim R W b → IsDim R (Sum R U W) s → IsDim R (Meet R U W) c → s + c ≡ a + b
  dim_sum_meet {U} {W} {c = c} da db ds dc =
      let (n, N, e) = sum_basis (dim_basis laws da) (dim_basis laws db) (dim_basis laws dc) in
      ap (λ k. k + c) (dim_unique R (Sum R U W) ds (basis_dim laws N)) ∙ e
