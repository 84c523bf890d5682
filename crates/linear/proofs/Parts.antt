-- The part of a span that lies in another space has a list: intersections and kernels.
--   Space Z    Z holds zero, sums and multiples
use Rattle.std.proofs.Common.{◌≡◌, ◌↔◌, List, [], ◌∷◌, ◌++◌, map, sym, ap, ◌∙◌, subst, ap₂}
use mathlib.Core.Logic.Dec
use Rattle.linear.specs.Field.{Field}
use Rattle.linear.specs.Rows.{Rows, RowLaws, minus}
use Rattle.linear.specs.Span.{Span, Spans, Meet}
use Rattle.linear.specs.Maps.{Linear, Kernel}
use Rattle.linear.proofs.Rows.{plus_none, plus_comm, times_none, term_solve, term_shift, one_times, minus_back, minus_sum}
use Rattle.linear.proofs.Spans.{InSpan, span_nil, span_cons, Within, within_cons, to_span, from_span, span_zero, span_plus, span_times, span_minus, span_head, span_skip, span_drop, span_trans, within_refl, within_left, within_right, span_parts}
use Rattle.linear.proofs.Adding.{span?}
use Rattle.linear.proofs.Maps.{map_none, map_plus, map_times, map_minus, map_same, image_span, image_lift}

pub record Space {K V : Type 0} (R : Rows K V) (Z : V → Type 0) : Type 0 where
  pub zero_in : Z R.none
  pub plus_in : (u v : V) → Z u → Z v → Z (R.plus u v)
  pub times_in : (c : K) (v : V) → Z v → Z (R.times c v)

-- a row differs from one of a span by one of Z, which is decided of rows in the span of B
module _ {K V : Type 0} {F : Field K} {R : Rows K V} (laws : RowLaws F R) {Z : V → Type 0} (space : Space R Z) (B : List V)
    (decide : (Y : List V) (y : V) → Within R (y ∷ Y) B → Dec ((x : V) × InSpan R Y x × Z (minus F R y F.one x))) where
  open F use {zero, one, neg, inv}
  open R use {none, plus, times}

  part_nil : (v : V) → InSpan R [] v → Z v
  part_nil v (span_nil e) = subst Z (sym e) space.zero_in

  -- no such row: the first row of the list does not count
  part_skip : (y : V) (Y : List V) → ¬ ((x : V) × InSpan R Y x × Z (minus F R y one x)) → (v : V) → InSpan R (y ∷ Y) v → Z v → InSpan R Y v
  part_skip y Y h v (span_cons c w e s) z = at (F.same? c zero)
    where
      at : Dec (c ≡ zero) → InSpan R Y v
      at (yes o) = span_drop laws e o s
      at (no o) =
          let x = times (neg (inv c)) w in
          let y-is : plus x (times (inv c) v) ≡ y = plus_comm laws x (times (inv c) v) ∙ ap (λ u. plus (times (inv c) u) x) e ∙ term_solve laws c y w o in
          let d-is : minus F R y one x ≡ times (inv c) v = ap (λ u. minus F R u one x) (sym y-is) ∙ minus_sum laws x (times (inv c) v) in
          absurd (h (x, span_times laws (neg (inv c)) s, subst Z (sym d-is) (space.times_in (inv c) v z)))

  -- such a row x: y − x takes the place of y
  module _ (y x : V) (Y N : List V) (sx : InSpan R Y x) (zd : Z (minus F R y one x)) (k : (v : V) → InSpan R N v ↔ (InSpan R Y v × Z v)) where
    part_inside : (v : V) → InSpan R (minus F R y one x ∷ N) v → InSpan R (y ∷ Y) v × Z v
    part_inside v (span_cons c w e s) =
        let d = minus F R y one x in
        let (a, b) = (k w).0 s in (
          subst (InSpan R (y ∷ Y)) (sym e) (span_plus laws (span_times laws c (span_minus laws one (span_head laws y Y) (span_skip laws y sx))) (span_skip laws y a)),
          subst Z (sym e) (space.plus_in (times c d) w (space.times_in c d zd) b),
        )

    part_covers : (v : V) → InSpan R (y ∷ Y) v → Z v → InSpan R (minus F R y one x ∷ N) v
    part_covers v (span_cons c w e s) z =
        let d = minus F R y one x in
        let r = plus w (times c x) in
        let v-is : v ≡ plus (times c d) r = e ∙ term_shift laws c x y w in
        let r-is : minus F R v one (times c d) ≡ r = ap (λ u. minus F R u one (times c d)) v-is ∙ minus_sum laws (times c d) r in
        let zr : Z r = subst Z r-is (space.plus_in v _ z (space.times_in (neg one) (times c d) (space.times_in c d zd))) in
        span_cons c r v-is ((k r).1 (span_plus laws s (span_times laws c sx), zr))

  pub part : (Y : List V) → Within R Y B → (N : List V) × ((v : V) → InSpan R N v ↔ (InSpan R Y v × Z v))
  part [] t = ([], λ v. (λ s. (s, part_nil v s), λ s. s.0))
  part (y ∷ Y) (within_cons sy ty) = let (N, k) = part Y ty in elim (decide Y y (within_cons sy ty)) [
    | no h ↦ (N, λ v. (λ s. let (a, b) = (k v).0 s in (span_skip laws y a, b), λ (a, b). (k v).1 (part_skip y Y h v a b, b)))
    | yes (x, sx, zd) ↦ (minus F R y one x ∷ N, λ v. (part_inside y x Y N sx zd k v, λ (a, b). part_covers y x Y N sx zd k v a b))
  ]

module _ {K V : Type 0} {F : Field K} {R : Rows K V} (laws : RowLaws F R) where
  pub span_space : (L : List V) → Space R (InSpan R L)
  span_space L = record { zero_in = span_zero laws L; plus_in = λ u v s t. span_plus laws s t; times_in = λ c v s. span_times laws c s }

  -- a row is one of Y and one of M exactly if it differs from one of Y by one of M
  sum_decided : (M Y : List V) (y : V) → Dec ((x : V) × InSpan R Y x × InSpan R M (minus F R y F.one x))
  sum_decided M Y y = Dec.of_iff (
    λ s. let (x, w, sx, sw, e) = span_parts laws Y M s in (x, sx, subst (InSpan R M) (sym (minus_sum laws x w) ∙ ap (λ u. minus F R u F.one x) e) sw),
    λ (x, sx, sw).
        subst (InSpan R (Y ++ M)) (minus_back laws y F.one x)
        (span_plus laws (span_times laws F.one (span_trans laws (within_left laws Y M) sx)) (span_trans laws (within_right laws Y M) sw)),
  ) (span? laws (Y ++ M) y)

  pub meet_spanned : (L M : List V) → (N : List V) × Spans R N (Meet R (Span R L) (Span R M))
  meet_spanned L M =
      let (N, k) = part laws (span_space M) L (λ Y y t. sum_decided M Y y) L (within_refl laws L) in
      (N, λ v. (λ s. let (a, b) = (k v).0 (from_span N s) in (to_span a, to_span b), λ (a, b). to_span ((k v).1 (from_span L a, from_span M b))))

module _ {K V W : Type 0} {F : Field K} {R : Rows K V} {S : Rows K W} (rows : RowLaws F R) (images : RowLaws F S)
    {U : V → Type 0} {f : V → W} (linear : Linear R S U f) (B : List V) (spans : Spans R B U) where
  inside : (v : V) → InSpan R B v → U v
  inside v s = (spans v).0 (to_span s)

  -- the kernel, of the span of B
  Killed : V → Type 0
  Killed v = InSpan R B v × (f v ≡ S.none)

  kernel_space : Space R Killed
  unfolding Killed
  kernel_space = record {
    zero_in = (span_zero rows B, map_none rows images linear B inside);
    plus_in = λ u v (s, e) (t, g). (span_plus rows s t, map_plus rows images linear B inside s t ∙ ap₂ S.plus e g ∙ plus_none images S.none);
    times_in = λ c v (s, e). (span_times rows c s, map_times rows images linear B inside c s ∙ ap (S.times c) e ∙ times_none images c);
  }

  kernel_decided : (Y : List V) (y : V) → Within R (y ∷ Y) B → Dec ((x : V) × InSpan R Y x × Killed (minus F R y F.one x))
  unfolding Killed
  kernel_decided Y y (within_cons sy ty) = Dec.of_iff (
    λ s.
        let (x, sx, e) = image_lift rows images linear B inside ty s in
        let sb = span_trans rows ty sx in
        (x, sx, (span_minus rows F.one sy sb, map_same rows images linear B inside sy sb (sym e))),
    λ (x, sx, (sd, e)).
        let sb = span_trans rows ty sx in
        let fx : S.plus (S.times F.one (f x)) S.none ≡ f y =
        ap (S.plus (S.times F.one (f x))) (sym e ∙ map_minus rows images linear B inside F.one sy sb) ∙ minus_back images (f y) F.one (f x) in
        subst (InSpan S (map f Y)) (sym (one_times images (f x)) ∙ sym (plus_none images _) ∙ fx) (image_span rows images linear B inside ty sx),
  ) (span? images (map f Y) (f y))

  pub kernel_spanned : (N : List V) × Spans R N (Kernel R S U f)
  unfolding Killed
  kernel_spanned =
      let (N, k) = part rows kernel_space B kernel_decided B (within_refl rows B) in
      (N, λ v. (λ s. let (a, b) = (k v).0 (from_span N s) in (inside v a, b.1), λ (u, e). let s = from_span B ((spans v).1 u) in to_span ((k v).1 (s, (s, e)))))
