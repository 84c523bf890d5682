-- Linear maps: images of lists, and the dimensions of kernel and image.
use Rattle.std.proofs.Common.{◌≡◌, ℕ, ◌+◌, List, ◌++◌, map, length, sym, refl, ap, ◌∙◌, subst, arith}
use lib.ListN.{length-map}
use Rattle.linear.specs.Field.{Field}
use Rattle.linear.specs.Rows.{Rows, RowLaws, minus}
use Rattle.linear.specs.Span.{Span, Spans, IsDim}
use Rattle.linear.specs.Maps.{Linear, Kernel, Image}
use Rattle.linear.proofs.Rows.{zero_times, minus_back, minus_self}
use Rattle.linear.proofs.Spans.{InSpan, span_nil, span_cons, Within, within_nil, within_cons, Indep, indep_nil, indep_cons, to_span, from_span, within_append, span_zero, span_plus, span_times, span_minus, span_trans, within_refl, within_left, within_right, replace}
use Rattle.linear.proofs.Dims.{Basis, basis_within, basis_dim, dim_basis, dim_unique}
use Rattle.linear.proofs.Sums.{rest_indep}

-- f is linear on the span of B
module _ {K V W : Type 0} {F : Field K} {R : Rows K V} {S : Rows K W} (rows : RowLaws F R) (images : RowLaws F S)
    {U : V → Type 0} {f : V → W} (linear : Linear R S U f) (B : List V) (inside : (v : V) → InSpan R B v → U v) where
  open F use {zero, one, neg}

  pub map_plus : {u v : V} → InSpan R B u → InSpan R B v → f (R.plus u v) ≡ S.plus (f u) (f v)
  map_plus {u} {v} s t = linear.sums u v (inside u s) (inside v t)

  pub map_times : (c : K) {v : V} → InSpan R B v → f (R.times c v) ≡ S.times c (f v)
  map_times c {v} s = linear.multiples c v (inside v s)

  pub map_none : f R.none ≡ S.none
  map_none = ap f (sym (zero_times rows R.none)) ∙ map_times zero (span_zero rows B) ∙ zero_times images (f R.none)

  pub map_term : {v b w : V} {c : K} → v ≡ R.plus (R.times c b) w → InSpan R B b → InSpan R B w → f v ≡ S.plus (S.times c (f b)) (f w)
  map_term {w = w} {c = c} e s t = ap f e ∙ map_plus (span_times rows c s) t ∙ ap (λ x. S.plus x (f w)) (map_times c s)

  pub map_minus : {u v : V} (c : K) → InSpan R B u → InSpan R B v → f (minus F R u c v) ≡ minus F S (f u) c (f v)
  map_minus {u} c s t = map_plus s (span_times rows (neg c) t) ∙ ap (S.plus (f u)) (map_times (neg c) t)

  -- rows with one image differ by a row of the kernel
  pub map_same : {u v : V} → InSpan R B u → InSpan R B v → f u ≡ f v → f (minus F R u one v) ≡ S.none
  map_same {v = v} s t e = map_minus one s t ∙ ap (λ x. minus F S x one (f v)) e ∙ minus_self images (f v)

  -- the image of a span is the span of the images
  pub image_span : {Y : List V} {v : V} → Within R Y B → InSpan R Y v → InSpan S (map f Y) (f v)
  image_span within_nil (span_nil e) = span_nil (ap f e ∙ map_none)
  image_span (within_cons sy ty) (span_cons c w e s) = span_cons c (f w) (map_term e sy (span_trans rows ty s)) (image_span ty s)

  pub image_lift : {Y : List V} {w : W} → Within R Y B → InSpan S (map f Y) w → (v : V) × InSpan R Y v × (f v ≡ w)
  image_lift within_nil (span_nil e) = (R.none, span_nil refl, map_none ∙ sym e)
  image_lift (within_cons {v = y} sy ty) (span_cons c w e s) =
      let (x, sx, g) = image_lift ty s in
      (R.plus (R.times c y) x, span_cons c x refl sx, map_term refl sy (span_trans rows ty sx) ∙ ap (S.plus (S.times c (f y))) g ∙ sym e)

  -- rows that are independent over the kernel have independent images
  pub image_indep : {Y : List V} (N : List V) → Within R Y B → ((x : V) → InSpan R B x → f x ≡ S.none → InSpan R N x) → Indep R (Y ++ N) → Indep S (map f Y)
  image_indep N within_nil k i = indep_nil
  image_indep N (within_cons {v = y} {L = Y} sy ty) k (indep_cons h i) =
      indep_cons
      (λ s.
      let (x, sx, g) = image_lift ty s in
      let sb = span_trans rows ty sx in
      let sd = k (minus F R y one x) (span_minus rows one sy sb) (map_same sy sb (sym g)) in
      h (subst (InSpan R (Y ++ N)) (minus_back rows y one x)
      (span_plus rows (span_times rows one (span_trans rows (within_left rows Y N) sx)) (span_trans rows (within_right rows Y N) sd))))
      (image_indep N ty k i)

  -- rows of the kernel do not count
  pub image_over : {Y : List V} (N : List V) {v : V} → Within R Y B → Within R N B → ((x : V) → InSpan R N x → f x ≡ S.none) → InSpan R (Y ++ N) v → InSpan S (map f Y) (f v)
  image_over N within_nil tn k s = span_nil (k _ s)
  image_over N (within_cons sy ty) tn k (span_cons c w e s) = span_cons c (f w) (map_term e sy (span_trans rows (within_append ty tn) s)) (image_over N ty tn k s)

module _ {K V W : Type 0} {F : Field K} {R : Rows K V} {S : Rows K W} (rows : RowLaws F R) (images : RowLaws F S)
    {U : V → Type 0} {f : V → W} (linear : Linear R S U f) where
  pub image_spans : (L : List V) → Spans R L U → Spans S (map f L) (Image R S U f)
  image_spans L s =
      let inside : (v : V) → InSpan R L v → U v = λ v x. (s v).0 (to_span x) in λ w. (
        λ t. let (v, sv, e) = image_lift rows images linear L inside (within_refl rows L) (from_span (map f L) t) in (v, inside v sv, e),
        λ (v, u, e). subst (Span S (map f L)) e (to_span (image_span rows images linear L inside (within_refl rows L) (from_span L ((s v).1 u)))),
      )

  pub image_basis : {d k : ℕ} → Basis R U d → Basis R (Kernel R S U f) k → (r : ℕ) × Basis S (Image R S U f) r × (k + r ≡ d)
  image_basis {d} {k} B N =
      let within : Within R N.rows B.rows = basis_within rows N B (λ v m. m.0) in
      let x = replace rows N.indep within in
      let Y = x.left in
      let kills : (v : V) → InSpan R N.rows v → f v ≡ S.none = λ v s. (N.inside v s).1 in
      let caught : (v : V) → InSpan R B.rows v → f v ≡ S.none → InSpan R N.rows v = λ v s e. N.covers v (B.inside v s, e) in
      let image : Basis S (Image R S U f) (length (map f Y)) = record {
        rows = map f Y;
        many = refl;
        indep = image_indep rows images linear B.rows B.inside N.rows x.of caught (rest_indep rows B.indep x);
        inside = λ w s.
            let (v, sv, e) = image_lift rows images linear B.rows B.inside x.of s in
            (v, B.inside v (span_trans rows x.of sv), e);
        covers = λ w (v, u, e).
            subst (InSpan S (map f Y)) e
            (image_over rows images linear B.rows B.inside N.rows x.of within kills (span_trans rows x.spans (B.covers v u)));
      } in
      (length (map f Y), image, omega (arith, length-map Y f, x.many, N.many, B.many))

  pub rank_nullity : {d k r : ℕ} → IsDim R U d → IsDim R (Kernel R S U f) k → IsDim S (Image R S U f) r → k + r ≡ d
  rank_nullity {k = k} hd hk hr =
      let (n, N, e) = image_basis (dim_basis rows hd) (dim_basis rows hk) in
      ap (λ j. k + j) (dim_unique S (Image R S U f) hr (basis_dim images N)) ∙ e
