-- Reduced lists row by row: independent, and fixed by their span.
--   ZeroAt v ps       v is zero at each of the places ps
--   Stairs m ps L     the rows of L lead at the places ps, which rise from m on, and each is zero at the places of the others
use Rattle.std.proofs.Common.{◌≡◌, ℕ, suc, ◌<◌, ◌≤◌, List, [], ◌∷◌, ◌++◌, sym, refl, ap, ◌∙◌, subst, ap₂, arith}
use native.Mathlib.Decide.{dec_le}
use Rattle.linear.specs.Field.{Field}
use Rattle.linear.specs.Rows.{Rows, RowLaws}
use Rattle.linear.specs.Span.{Each}
use Rattle.linear.specs.Reduced.{Leads}
use Rattle.linear.proofs.Each.{each_push}
use Rattle.linear.proofs.Fields.{zero-add, mul-zero}
use Rattle.linear.proofs.Rows.{term_one, term_skip}
use Rattle.linear.proofs.Spans.{InSpan, span_nil, span_cons, Within, within_cons, Indep, indep_nil, indep_cons, span_drop, span_trans, span_skip, span_head, within_all}

module _ {K V : Type 0} (F : Field K) (R : Rows K V) where
  abbrev pub ZeroAt : V → List ℕ → Type 0
  ZeroAt v ps = Each (λ p. R.coord v p ≡ F.zero) ps

  -- since the places rise, a later row is zero at an earlier place anyway
  pub data Stairs : ℕ → List ℕ → List V → Type 0 where
    stairs_nil : {m : ℕ} → Stairs m [] []
    stairs_cons : {m p : ℕ} {ps : List ℕ} {v : V} {L : List V} → m ≤ p → Leads F R v p → ZeroAt v ps → Stairs (suc p) ps L → Stairs m (p ∷ ps) (v ∷ L)

module _ {K V : Type 0} {F : Field K} {R : Rows K V} where
  -- one row more, which leads after the others at a place where they are zero
  pub stairs_push : {v : V} {p m : ℕ} {ps : List ℕ} {L : List V} → Stairs F R m ps L → m ≤ p → Each (λ q. q < p) ps → Leads F R v p
      → Each (λ w. R.coord w p ≡ F.zero) L → Stairs F R m (ps ++ (p ∷ [])) (L ++ (v ∷ []))
  stairs_push stairs_nil mp b lv z = stairs_cons mp lv tt stairs_nil
  stairs_push {p = p} (stairs_cons {ps = ps} {v = w} mq lw zw st) mp (b, bs) lv (z, zs) = stairs_cons mq lw (each_push (λ q. R.coord w q ≡ F.zero) ps p zw z) (stairs_push st b bs lv zs)

module _ {K V : Type 0} {F : Field K} {R : Rows K V} (laws : RowLaws F R) where
  open F use {zero, one, add, mul}
  open R use {none, plus, times, coord}

  coord_term : {v b w : V} {c : K} → v ≡ plus (times c b) w → (i : ℕ) → coord v i ≡ add (mul c (coord b i)) (coord w i)
  coord_term e i = ap (λ x. coord x i) e ∙ simp (laws.coord_plus, laws.coord_times)

  -- the weight is the sum's coordinate where the row is one and the rest is zero
  term_weight : {v b w : V} {c : K} → v ≡ plus (times c b) w → (i : ℕ) → coord b i ≡ one → coord w i ≡ zero → coord v i ≡ c
  term_weight {c = c} e i o z = coord_term e i ∙ ap₂ (λ x y. add (mul c x) y) o z ∙ F.add-zero (mul c one) ∙ F.mul_one c

  term_zero : {v b w : V} {c : K} → v ≡ plus (times c b) w → (i : ℕ) → coord b i ≡ zero → coord v i ≡ coord w i
  term_zero {w = w} {c = c} e i o = coord_term e i ∙ ap (λ x. add x (coord w i)) (ap (mul c) o ∙ mul-zero F c) ∙ zero-add F (coord w i)

  -- a row of the span is zero before the first place
  pub stairs_before : {m : ℕ} {ps : List ℕ} {L : List V} {v : V} → Stairs F R m ps L → InSpan R L v → (i : ℕ) → i < m → coord v i ≡ zero
  stairs_before stairs_nil (span_nil e) i h = ap (λ x. coord x i) e ∙ laws.coord_none i
  stairs_before (stairs_cons mp ld za st) (span_cons c w e s) i h = term_zero e i (ld.2 i (omega arith)) ∙ stairs_before st s i (omega arith)

  pub stairs_indep : {m : ℕ} {ps : List ℕ} {L : List V} → Stairs F R m ps L → Indep R L
  stairs_indep stairs_nil = indep_nil
  stairs_indep (stairs_cons {p = p} mp ld za st) =
      indep_cons (λ s. F.one_not_zero (sym ld.1 ∙ stairs_before st s p (omega arith))) (stairs_indep st)

  -- the weight of the first row is what the sum has at its place
  first_weight : {p : ℕ} {ps : List ℕ} {b : V} {L : List V} {v w : V} {c : K} → Leads F R b p → Stairs F R (suc p) ps L → v ≡ plus (times c b) w → InSpan R L w → coord v p ≡ c
  first_weight {p = p} ld st e s = term_weight e p ld.1 (stairs_before st s p (omega arith))

  zero_rest : (ps : List ℕ) {v b w : V} {c : K} → v ≡ plus (times c b) w → ZeroAt F R v ps → ZeroAt F R b ps → ZeroAt F R w ps
  zero_rest [] e z y = tt
  zero_rest (p ∷ ps) e (z, zs) (y, ys) = (sym (term_zero e p y) ∙ z, zero_rest ps e zs ys)

  -- a row of the span that is zero at every place is zero
  pub stairs_zero : {m : ℕ} {ps : List ℕ} {L : List V} {v : V} → Stairs F R m ps L → InSpan R L v → ZeroAt F R v ps → v ≡ none
  stairs_zero stairs_nil (span_nil e) z = e
  stairs_zero (stairs_cons {ps = ps} {v = b} mp ld za st) (span_cons c w e s) (z, zs) =
      let same = e ∙ ap (λ k. plus (times k b) w) (sym (first_weight ld st e s) ∙ z) ∙ sym (term_skip laws b w) in
      same ∙ stairs_zero st s (zero_rest ps e zs za)

  -- a row of the span that is zero at the first place is in the span of the rest
  stairs_rest : {m p : ℕ} {ps : List ℕ} {b : V} {L : List V} {v : V} → Stairs F R m (p ∷ ps) (b ∷ L) → InSpan R (b ∷ L) v → coord v p ≡ zero → InSpan R L v
  stairs_rest (stairs_cons mp ld za st) (span_cons c w e s) z = span_drop laws e (sym (first_weight ld st e s) ∙ z) s

  -- nothing of the span leads before the first place
  stairs_first : {m p q : ℕ} {ps : List ℕ} {b u : V} {L : List V} → Stairs F R m (p ∷ ps) (b ∷ L) → InSpan R (b ∷ L) u → Leads F R u q → p ≤ q
  stairs_first {p = p} {q = q} (stairs_cons mp ld za st) s lu = at (dec_le p q)
    where
      at : Dec (p ≤ q) → p ≤ q
      at (yes h) = h
      at (no h) = absurd (F.one_not_zero (sym lu.1 ∙ stairs_before {m = p} (stairs_cons (omega arith) ld za st) s q (omega arith)))

  -- a row that leads is not zero
  pub leads_some : {v : V} {p : ℕ} → Leads F R v p → ¬ (v ≡ none)
  leads_some {p = p} ld e = F.one_not_zero (sym ld.1 ∙ ap (λ x. coord x p) e ∙ laws.coord_none p)

  -- the rows after the first, of two lists with one span
  rest_within : {m p k : ℕ} {ps qs : List ℕ} {b d : V} {L M : List V} → Stairs F R m (p ∷ ps) (b ∷ L) → Stairs F R k (p ∷ qs) (d ∷ M)
      → Within R (b ∷ L) (d ∷ M) → Within R L M
  rest_within {p = p} {b = b} {L = L} (stairs_cons mp ld za st) su t =
      within_all laws L (λ v s. stairs_rest su (span_trans laws t (span_skip laws b s)) (stairs_before st s p (omega arith)))

  first_same : {m p : ℕ} {ps : List ℕ} {b d : V} {L : List V} → Stairs F R m (p ∷ ps) (b ∷ L) → Leads F R d p → ZeroAt F R d ps → InSpan R (b ∷ L) d → b ≡ d
  first_same {ps = ps} {b = b} (stairs_cons mp lb zb st) ld zd (span_cons c w e s) =
      let c-one : c ≡ one = sym (first_weight lb st e s) ∙ ld.1 in
      let w-none : w ≡ none = stairs_zero st s (zero_rest ps e zd zb) in
      term_one laws b ∙ ap₂ (λ k u. plus (times k b) u) (sym c-one) (sym w-none) ∙ sym e

  pub stairs_unique : {m k : ℕ} {ps qs : List ℕ} {L M : List V} → Stairs F R m ps L → Stairs F R k qs M → Within R L M → Within R M L → (ps ≡ qs) × (L ≡ M)
  stairs_unique stairs_nil stairs_nil t u = (refl, refl)
  stairs_unique stairs_nil (stairs_cons mq ld zd su) t (within_cons (span_nil e) u) = absurd (leads_some ld e)
  stairs_unique (stairs_cons mp lb zb st) stairs_nil (within_cons (span_nil e) t) u = absurd (leads_some lb e)
  stairs_unique {k = k} (stairs_cons {p = p} {v = b} {L = L} mp lb zb st) (stairs_cons {p = q} {ps = qs} {v = d} {L = M} mq ld zd su) t u =
      let b-in : InSpan R (d ∷ M) b = span_trans laws t (span_head laws b L) in
      let d-in : InSpan R (b ∷ L) d = span_trans laws u (span_head laws d M) in
      let top = stairs_cons mp lb zb st in
      let top' = stairs_cons mq ld zd su in
      let e : q ≡ p = omega (arith, stairs_first top d-in ld, stairs_first top' b-in lb) in
      let other = subst (λ i. Stairs F R k (i ∷ qs) (d ∷ M)) e top' in
      let (es, rest) = stairs_unique st su (rest_within top other t) (rest_within other top u) in
      let first = first_same top (subst (Leads F R d) e ld) (subst (ZeroAt F R d) (sym es) zd) d-in in
      (ap₂ {C = List ℕ} (λ i is. i ∷ is) (sym e) es, ap₂ {C = List V} (λ v vs. v ∷ vs) first rest)
