-- Spans term by term, independent lists, and the exchange of rows.
--   InSpan L v    v is a combination of the rows of L
--   Within L M    each row of L is in the span of M
--   Indep L       no row of L is in the span of those after it
use Rattle.std.proofs.Common.{◌≡◌, ℕ, zero as 0ₙ, suc, ◌+◌, ◌<◌, ◌≤◌, List, [], ◌∷◌, ◌++◌, length, get_or, sym, refl, ap, ◌∙◌, subst, ap₂, arith}
use Rattle.linear.specs.Field.{Field}
use Rattle.linear.specs.Rows.{Rows, RowLaws, minus}
use Rattle.linear.specs.Span.{Each, combination, Span, SameSpan, Independent}
use Rattle.linear.proofs.Fields.{neg_one_not_zero}
use Rattle.linear.proofs.Rows.{plus_none, none_plus, plus_comm, plus_assoc, times_none, term_one, term_skip, term_plus, term_times, term_solve, minus_self}

module _ {K V : Type 0} (R : Rows K V) where
  open R use {none, plus, times}

  pub data InSpan : List V → V → Type 0 where
    span_nil : {v : V} → v ≡ none → InSpan [] v
    span_cons : {b : V} {B : List V} {v : V} (c : K) (w : V) → v ≡ plus (times c b) w → InSpan B w → InSpan (b ∷ B) v

  pub data Within : List V → List V → Type 0 where
    within_nil : {M : List V} → Within [] M
    within_cons : {v : V} {L M : List V} → InSpan M v → Within L M → Within (v ∷ L) M

  pub data Indep : List V → Type 0 where
    indep_nil : Indep []
    indep_cons : {b : V} {B : List V} → ¬ InSpan B b → Indep B → Indep (b ∷ B)

module _ {K V : Type 0} {R : Rows K V} where
  open R use {none, plus, times}

  pub to_span : {L : List V} {v : V} → InSpan R L v → Span R L v
  to_span (span_nil e) = ([], refl, sym e)
  to_span (span_cons {b = b} c w e s) = let (cs, l, p) = to_span s in (c ∷ cs, ap suc l, ap (plus (times c b)) p ∙ sym e)

  pub from_span : (L : List V) {v : V} → Span R L v → InSpan R L v
  from_span L (cs, l, e) = go L cs l e
    where
      go : (L : List V) (cs : List K) {v : V} → length cs ≡ length L → combination R cs L ≡ v → InSpan R L v
      go [] [] l e = span_nil (sym e)
      go [] (c ∷ cs) l e = absurd (omega arith)
      go (b ∷ B) [] l e = absurd (omega arith)
      go (b ∷ B) (c ∷ cs) l e = span_cons c (combination R cs B) (sym e) (go B cs (omega arith) refl)

  pub within_map : {L M N : List V} → Within R L M → ((v : V) → InSpan R M v → InSpan R N v) → Within R L N
  within_map within_nil f = within_nil
  within_map (within_cons s t) f = within_cons (f _ s) (within_map t f)

  pub within_append : {X A M : List V} → Within R X M → Within R A M → Within R (X ++ A) M
  within_append within_nil t = t
  within_append (within_cons s r) t = within_cons s (within_append r t)

module _ {K V : Type 0} {F : Field K} {R : Rows K V} (laws : RowLaws F R) where
  open F use {zero, one, add, neg, mul, inv}
  open R use {none, plus, times, coord}

  pub span_zero : (L : List V) → InSpan R L none
  span_zero [] = span_nil refl
  span_zero (b ∷ B) = span_cons zero none (term_skip laws b none) (span_zero B)

  pub span_plus : {L : List V} {u v : V} → InSpan R L u → InSpan R L v → InSpan R L (plus u v)
  span_plus (span_nil e) (span_nil d) = span_nil (ap₂ plus e d ∙ plus_none laws none)
  span_plus (span_cons {b = b} c w e s) (span_cons d x f t) =
      span_cons (add c d) (plus w x) (ap₂ plus e f ∙ term_plus laws c d b w x) (span_plus s t)

  pub span_times : (k : K) {L : List V} {v : V} → InSpan R L v → InSpan R L (times k v)
  span_times k (span_nil e) = span_nil (ap (times k) e ∙ times_none laws k)
  span_times k (span_cons {b = b} c w e s) = span_cons (mul k c) (times k w) (ap (times k) e ∙ term_times laws k c b w) (span_times k s)

  pub span_minus : {L : List V} {v r : V} (c : K) → InSpan R L v → InSpan R L r → InSpan R L (minus F R v c r)
  span_minus c s t = span_plus s (span_times (neg c) t)

  pub span_head : (b : V) (B : List V) → InSpan R (b ∷ B) b
  span_head b B = span_cons one none (term_one laws b) (span_zero B)

  pub span_skip : (b : V) {B : List V} {v : V} → InSpan R B v → InSpan R (b ∷ B) v
  span_skip b {v = v} s = span_cons zero v (term_skip laws b v) s

  pub span_at : (L : List V) (i : ℕ) → i < length L → InSpan R L (get_or L i none)
  span_at [] i h = absurd (omega arith)
  span_at (v ∷ L) 0ₙ h = span_head v L
  span_at (v ∷ L) (suc i) h = span_skip v (span_at L i (omega arith))

  -- a term of weight zero
  pub span_drop : {b : V} {B : List V} {v w : V} {c : K} → v ≡ plus (times c b) w → c ≡ zero → InSpan R B w → InSpan R B v
  span_drop {b} {B} {v} {w} e z s = subst (InSpan R B) (term_skip laws b w ∙ ap (λ k. plus (times k b) w) (sym z) ∙ sym e) s

  -- a term of another weight: its row is in the span of the sum and the other terms
  pub span_solve : {b v : V} {B : List V} {w : V} {c : K} → v ≡ plus (times c b) w → ¬ (c ≡ zero) → InSpan R B w → InSpan R (v ∷ B) b
  span_solve {b} {w = w} {c = c} e z s =
      span_cons (inv c) (times (neg (inv c)) w)
      (sym (term_solve laws c b w z) ∙ ap (λ x. plus (times (inv c) x) (times (neg (inv c)) w)) (sym e)) (span_times (neg (inv c)) s)

  pub span_trans : {L M : List V} {v : V} → Within R L M → InSpan R L v → InSpan R M v
  span_trans {M = M} within_nil (span_nil e) = subst (InSpan R M) (sym e) (span_zero M)
  span_trans {M = M} (within_cons s t) (span_cons c w e u) = subst (InSpan R M) (sym e) (span_plus (span_times c s) (span_trans t u))

  pub within_skip : (b : V) {L M : List V} → Within R L M → Within R L (b ∷ M)
  within_skip b t = within_map t (λ v s. span_skip b s)

  pub within_refl : (L : List V) → Within R L L
  within_refl [] = within_nil
  within_refl (b ∷ B) = within_cons (span_head b B) (within_skip b (within_refl B))

  pub within_trans : {L M N : List V} → Within R L M → Within R M N → Within R L N
  within_trans t u = within_map t (λ v s. span_trans u s)

  -- one span inside another
  pub within_all : (L : List V) {M : List V} → ((v : V) → InSpan R L v → InSpan R M v) → Within R L M
  within_all L f = within_map (within_refl L) f

  -- a row in the span of others adds nothing to them
  pub within_known : {v : V} {L : List V} → InSpan R L v → Within R (v ∷ L) L
  within_known {L = L} s = within_cons s (within_refl L)

  pub within_same : {L M : List V} → Within R L M → Within R M L → SameSpan R L M
  within_same {L} {M} t u v = (λ s. to_span (span_trans t (from_span L s)), λ s. to_span (span_trans u (from_span M s)))

  pub within_head : (b : V) {L M : List V} → Within R L M → Within R (b ∷ L) (b ∷ M)
  within_head b {M = M} t = within_cons (span_head b M) (within_skip b t)

  pub within_left : (X A : List V) → Within R X (X ++ A)
  within_left [] A = within_nil
  within_left (b ∷ X) A = within_head b (within_left X A)

  pub within_right : (X A : List V) → Within R A (X ++ A)
  within_right [] A = within_refl A
  within_right (b ∷ X) A = within_skip b (within_right X A)

  -- a row of a span of two lists, in two parts
  pub span_parts : (X A : List V) {v : V} → InSpan R (X ++ A) v → (u : V) × (w : V) × InSpan R X u × InSpan R A w × (plus u w ≡ v)
  span_parts [] A {v} s = (none, v, span_nil refl, s, none_plus laws v)
  span_parts (b ∷ X) A (span_cons c w e s) =
      let (x, y, sx, sy, f) = span_parts X A s in
      (plus (times c b) x, y, span_cons c x refl sx, sy, plus_assoc laws (times c b) x y ∙ ap (plus (times c b)) f ∙ sym e)

  -- v is in the span of X and A, and not of A: one of X gives way to it
  pub record Exchanged (v : V) (A X : List V) : Type 0 where
    pub left : List V
    pub fewer : suc (length left) ≡ length X
    pub spans : Within R (X ++ A) (v ∷ (left ++ A))
    pub of : Within R left X

  pub exchange : (v : V) (A X : List V) → ¬ InSpan R A v → InSpan R (X ++ A) v → Exchanged v A X
  exchange v A [] h s = absurd (h s)
  exchange v A (b ∷ X) h (span_cons c w e s) = at_weight (F.same? c zero) (exchange v A X h)
    where
      at_weight : Dec (c ≡ zero) → (InSpan R (X ++ A) v → Exchanged v A X) → Exchanged v A (b ∷ X)
      at_weight (yes z) ih =
          let x = ih (span_drop e z s) in
          let rest = x.left ++ A in
          record {
            left = b ∷ x.left;
            fewer = ap suc x.fewer;
            spans = within_cons (span_skip v (span_head b rest)) (within_trans x.spans (within_head v (within_skip b (within_refl rest))));
            of = within_head b x.of;
          }
      at_weight (no z) ih = record {
        left = X;
        fewer = refl;
        spans = within_cons (span_solve e z s) (within_skip v (within_refl (X ++ A)));
        of = within_skip b (within_refl X);
      }

  -- A takes the place of as many rows of B
  pub record Replaced (A B : List V) : Type 0 where
    pub left : List V
    pub many : length left + length A ≡ length B
    pub spans : Within R B (left ++ A)
    pub of : Within R left B

  pub replace : {A B : List V} → Indep R A → Within R A B → Replaced A B
  replace {B = B} indep_nil t = record { left = B; many = omega arith; spans = within_left B []; of = within_refl B }
  replace {B = B} (indep_cons {b = a} {B = A} h i) (within_cons s t) =
      let y = replace i t in
      let x = exchange a A y.left h (span_trans y.spans s) in
      let Z = x.left in
      let tail = within_right Z (a ∷ A) in
      let moved : Within R (a ∷ (Z ++ A)) (Z ++ (a ∷ A)) =
      within_cons (span_trans tail (span_head a A)) (within_append (within_left Z (a ∷ A)) (within_trans (within_skip a (within_refl A)) tail)) in
      let many : length Z + suc (length A) ≡ length B = omega (arith, x.fewer, y.many) in
      record { left = Z; many = many; spans = within_trans y.spans (within_trans x.spans moved); of = within_trans x.of y.of }

  -- independent rows in the span of others are no more than these
  pub indep_shorter : {A B : List V} → Indep R A → Within R A B → length A ≤ length B
  indep_shorter i t = omega (arith, (replace i t).many)

  -- a list that no shorter one spans
  pub shortest_indep : (L : List V) → ((M : List V) → Within R L M → Within R M L → length L ≤ length M) → Indep R L
  shortest_indep [] h = indep_nil
  shortest_indep (b ∷ B) h =
      indep_cons
      (λ s. let k : suc (length B) ≤ length B = h B (within_known s) (within_skip b (within_refl B)) in omega arith)
      (shortest_indep B (λ M t u. let k : suc (length B) ≤ suc (length M) = h (b ∷ M) (within_head b t) (within_head b u) in omega arith))

  -- a list that spans independent rows and is no longer
  pub tight_indep : {B : List V} (S : List V) → Indep R B → Within R B S → length S ≤ length B → Indep R S
  tight_indep {B} S i t h = shortest_indep S (λ M u w. let k : length B ≤ length M = indep_shorter i (within_trans t u) in omega arith)

  pub from_independent : (L : List V) → Independent R F L → Indep R L
  from_independent [] h = indep_nil
  from_independent (b ∷ B) h =
      indep_cons
      (λ s.
      let (cs, l, p) = to_span s in
      neg_one_not_zero F (h (neg one ∷ cs) (ap suc l) (ap (plus (times (neg one) b)) p ∙ plus_comm laws _ b ∙ minus_self laws b)).0)
      (from_independent B (λ cs l e. (h (zero ∷ cs) (ap suc l) (sym (term_skip laws b (combination R cs B)) ∙ e)).1))

  pub to_independent : {L : List V} → Indep R L → Independent R F L
  to_independent i = λ cs l e. go i cs l e
    where
      go : {L : List V} → Indep R L → (cs : List K) → length cs ≡ length L → combination R cs L ≡ none → Each (λ c. c ≡ zero) cs
      go indep_nil [] l e = tt
      go indep_nil (c ∷ cs) l e = absurd (omega arith)
      go (indep_cons h i) [] l e = absurd (omega arith)
      go (indep_cons {b = b} {B = B} h i) (c ∷ cs) l e = at_weight (F.same? c zero) (go i cs (omega arith))
        where
          at_weight : Dec (c ≡ zero) → (combination R cs B ≡ none → Each (λ c. c ≡ zero) cs) → Each (λ c. c ≡ zero) (c ∷ cs)
          at_weight (yes z) ih = (z, ih (term_skip laws b _ ∙ ap (λ k. plus (times k b) (combination R cs B)) (sym z) ∙ e))
          at_weight (no z) ih = absurd (h (span_trans (within_known (span_zero B)) (span_solve (sym e) z (from_span B (cs, omega arith, refl)))))
