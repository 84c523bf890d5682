-- A row more in a reduced list, and so a reduced form of every list.
--   Inserted p u L M    M is L with u at its place: the rows that lead before p are cleared there
--   Remainder L v       v less a row of the span of L, zero at every place of L
--   First v p           p is the first place at which v is not zero
use Rattle.std.proofs.Common.{◌≡◌, ℕ, zero as 0ₙ, suc, ◌<◌, ◌≤◌, ◌⊎◌, List, [], ◌∷◌, sym, refl, ap, ◌∙◌, subst, inl, inr, arith}
use native.Mathlib.Decide.{dec_lt, ℕ_discrete}
use Rattle.linear.specs.Field.{Field}
use Rattle.linear.specs.Rows.{Rows, RowLaws, minus, cleared}
use Rattle.linear.specs.Span.{Each}
use Rattle.linear.specs.Reduced.{Leads}
use Rattle.linear.proofs.Fields.{mul-zero}
use Rattle.linear.proofs.Rows.{plus_none, plus_comm, plus_assoc, times_inv, minus_back, minus_sum, minus_keeps, minus_clears}
use Rattle.linear.proofs.Spans.{InSpan, span_nil, span_cons, Within, within_nil, within_cons, span_zero, span_plus, span_times, span_minus, span_head, span_skip, span_trans, within_refl, within_skip, within_trans, within_head, within_known}
use Rattle.linear.proofs.Stairs.{ZeroAt, Stairs, stairs_nil, stairs_cons, stairs_before, stairs_zero}

module _ {K V : Type 0} (F : Field K) (R : Rows K V) where
  pub data Inserted (p : ℕ) (u : V) : List ℕ → List V → List ℕ → List V → Type 0 where
    inserted_here : {ps : List ℕ} {L : List V} → Each (λ q. p < q) ps → Inserted p u ps L (p ∷ ps) (u ∷ L)
    inserted_later : {q : ℕ} {ps qs : List ℕ} {v : V} {L M : List V} → q < p → Inserted p u ps L qs M → Inserted p u (q ∷ ps) (v ∷ L) (q ∷ qs) (cleared F R u p v ∷ M)

  -- ps are the places of L
  pub record Remainder (ps : List ℕ) (L : List V) (v : V) : Type 0 where
    pub left : V
    pub taken : V
    pub spans : InSpan R L taken
    pub sum : R.plus taken left ≡ v
    pub zeros : ZeroAt F R left ps

  pub record First (v : V) (p : ℕ) : Type 0 where
    pub inside : p < R.width
    pub some : ¬ (R.coord v p ≡ F.zero)
    pub before : (i : ℕ) → i < p → R.coord v i ≡ F.zero

module _ {K V : Type 0} {F : Field K} {R : Rows K V} (laws : RowLaws F R) where
  open F use {zero, one, add, neg, mul, inv}
  open R use {none, plus, times, coord}

  zero_inserted : {p : ℕ} {u v : V} {ps qs : List ℕ} {L M : List V} → Inserted F R p u ps L qs M → ZeroAt F R v ps → coord v p ≡ zero → ZeroAt F R v qs
  zero_inserted (inserted_here h) z o = (o, z)
  zero_inserted (inserted_later h i) (z, zs) o = (z, zero_inserted i zs o)

  zero_minus : (ps : List ℕ) (v : V) (c : K) (u : V) → ZeroAt F R v ps → ZeroAt F R u ps → ZeroAt F R (minus F R v c u) ps
  zero_minus [] v c u z y = tt
  zero_minus (p ∷ ps) v c u (z, zs) (y, ys) = (minus_keeps laws v c u p y ∙ z, zero_minus ps v c u zs ys)

  -- the places above p, of which the first is the lowest
  lower_first : {m p : ℕ} {ps : List ℕ} {L : List V} → Stairs F R m ps L → Each (λ q. p < q) ps → Stairs F R (suc p) ps L
  lower_first stairs_nil h = stairs_nil
  lower_first (stairs_cons mq ld za st) h = stairs_cons h.0 ld za st

  pub inserted_stairs : {p : ℕ} {u : V} {ps qs : List ℕ} {L M : List V} {m : ℕ} → Inserted F R p u ps L qs M → Stairs F R m ps L → m ≤ p
      → Leads F R u p → ZeroAt F R u ps → Stairs F R m qs M
  inserted_stairs (inserted_here h) st mp lu zu = stairs_cons mp lu zu (lower_first st h)
  inserted_stairs {p = p} {u = u} (inserted_later {q = q} {ps = ps} {v = v} h i) (stairs_cons mq lv zv st) mp lu (z, zs) =
      let c = coord v p in
      stairs_cons mq
      (lv.0, minus_keeps laws v c u q z ∙ lv.1, λ j l. minus_keeps laws v c u j (lu.2 j (omega arith)) ∙ lv.2 j l)
      (zero_inserted i (zero_minus ps v c u zv zs) (minus_clears laws v u p lu.1))
      (inserted_stairs i st h lu zs)

  pub inserted_within : {p : ℕ} {u : V} {ps qs : List ℕ} {L M : List V} → Inserted F R p u ps L qs M → Within R (u ∷ L) M × Within R M (u ∷ L)
  inserted_within {u = u} (inserted_here {L = L} h) = (within_refl laws (u ∷ L), within_refl laws (u ∷ L))
  inserted_within {p = p} {u = u} (inserted_later {v = v} {L = L} {M = M} h i) = at (inserted_within i)
    where
      at : Within R (u ∷ L) M × Within R M (u ∷ L) → Within R (u ∷ (v ∷ L)) (cleared F R u p v ∷ M) × Within R (cleared F R u p v ∷ M) (u ∷ (v ∷ L))
      at (within_cons su t, s) =
          let c = coord v p in
          let w = cleared F R u p v in
          let u-in : InSpan R (w ∷ M) u = span_skip laws w su in (
            within_cons u-in (within_cons
                (subst (InSpan R (w ∷ M)) (minus_back laws v c u) (span_plus laws (span_times laws c u-in) (span_head laws w M))) (within_skip laws w t)),
            within_cons (span_minus laws c (span_skip laws u (span_head laws v L)) (span_head laws u (v ∷ L)))
                (within_trans laws s (within_head laws u (within_skip laws v (within_refl laws L)))),
          )

  pub insert : {m p : ℕ} {u : V} {ps : List ℕ} {L : List V} → Stairs F R m ps L → Leads F R u p → ZeroAt F R u ps → (qs : List ℕ) × (M : List V) × Inserted F R p u ps L qs M
  insert {p = p} {u = u} stairs_nil lu zu = (p ∷ [], u ∷ [], inserted_here tt)
  insert {p = p} {u = u} (stairs_cons {p = q} {ps = ps} {v = v} {L = L} mq lv zv st) lu (z, zs) = at (dec_lt q p) (insert st lu zs)
    where
      above : {m : ℕ} {ps : List ℕ} {L : List V} → Stairs F R m ps L → p < m → Each (λ i. p < i) ps
      above stairs_nil h = tt
      above (stairs_cons mq lv zv st) h = (omega arith, above st (omega arith))

      apart : Dec (p ≡ q) → ¬ (p ≡ q)
      apart (yes e) = absurd (F.one_not_zero (sym lu.1 ∙ ap (coord u) e ∙ z))
      apart (no e) = e

      at : Dec (q < p) → (qs : List ℕ) × (M : List V) × Inserted F R p u ps L qs M → (qs : List ℕ) × (M : List V) × Inserted F R p u (q ∷ ps) (v ∷ L) qs M
      at (yes h) (qs, M, i) = (q ∷ qs, _, inserted_later h i)
      at (no h) rest =
          let lt : p < q = let ne = apart (ℕ_discrete p q) in omega arith in
          (p ∷ (q ∷ ps), u ∷ (v ∷ L), inserted_here (lt, above st (omega arith)))

  pub remainder : {m : ℕ} {ps : List ℕ} {L : List V} → Stairs F R m ps L → (v : V) → Remainder F R ps L v
  remainder stairs_nil v = record { left = v; taken = none; spans = span_nil refl; sum = plus_comm laws none v ∙ plus_none laws v; zeros = tt }
  remainder (stairs_cons {p = p} {v = b} mp lb zb st) v =
      let c = coord v p in
      let r = remainder st (cleared F R b p v) in
      record {
        left = r.left;
        taken = plus (times c b) r.taken;
        spans = span_cons c r.taken refl r.spans;
        sum = plus_assoc laws (times c b) r.taken r.left ∙ ap (plus (times c b)) r.sum ∙ minus_back laws v c b;
        zeros = (
          sym (F.add-zero _) ∙ F.add_comm _ _ ∙ ap (λ x. add x (coord r.left p)) (sym (stairs_before laws st r.spans p (omega arith)))
              ∙ sym (laws.coord_plus r.taken r.left p) ∙ ap (λ x. coord x p) r.sum ∙ minus_clears laws v b p lb.1,
          r.zeros,
        );
      }

  -- a row and its remainder, in each other's span
  pub remainder_in : {ps : List ℕ} {L : List V} {v : V} (r : Remainder F R ps L v) → InSpan R (v ∷ L) r.left
  remainder_in {L = L} {v = v} r =
      subst (InSpan R (v ∷ L)) (ap (λ x. minus F R x one r.taken) (sym r.sum) ∙ minus_sum laws r.taken r.left)
      (span_minus laws one (span_head laws v L) (span_skip laws v r.spans))

  pub remainder_of : {ps : List ℕ} {L : List V} {v : V} (r : Remainder F R ps L v) → InSpan R (r.left ∷ L) v
  remainder_of {L = L} r = subst (InSpan R (r.left ∷ L)) r.sum (span_plus laws (span_skip laws r.left r.spans) (span_head laws r.left L))

  -- the remainder of a row of the span, and of no other, is zero
  pub remainder_none : {m : ℕ} {ps : List ℕ} {L : List V} {v : V} → Stairs F R m ps L → (r : Remainder F R ps L v) → InSpan R L v → r.left ≡ none
  remainder_none st r s = stairs_zero laws st (span_trans laws (within_known laws s) (remainder_in r)) r.zeros

  pub remainder_known : {ps : List ℕ} {L : List V} {v : V} (r : Remainder F R ps L v) → r.left ≡ none → InSpan R L v
  remainder_known {L = L} r e = span_trans laws (within_known laws (subst (InSpan R L) (sym e) (span_zero laws L))) (remainder_of r)

  -- a row is zero, or has a first place where it is not
  pub first_place : (v : V) → (v ≡ none) ⊎ ((p : ℕ) × First F R v p)
  first_place v = elim (go R.width (omega arith)) [ inl zs ↦ inl (laws.same v none (λ i h. zs i h ∙ sym (laws.coord_none i))) | inr found ↦ inr found ]
    where
      go : (k : ℕ) → k ≤ R.width → ((i : ℕ) → i < k → coord v i ≡ zero) ⊎ ((p : ℕ) × First F R v p)
      go 0ₙ h = inl (λ i h. absurd (omega arith))
      go (suc k) h = elim (go k (omega arith)) [
        | inr found ↦ inr found
        | inl zs ↦ elim (F.same? (coord v k) zero) [
          | yes z ↦ inl (λ i l. elim (ℕ_discrete i k) [ yes e ↦ ap (coord v) e ∙ z | no e ↦ zs i (omega arith) ])
          | no z ↦ inr (k, record { inside = h; some = z; before = zs })
        ]
      ]

  -- a row, scaled to one at its first place
  scaled_leads : {v : V} {p : ℕ} → First F R v p → Leads F R (times (inv (coord v p)) v) p
  scaled_leads {v} {p} f =
      let c = coord v p in
      (f.inside, laws.coord_times (inv c) v p ∙ F.mul_comm (inv c) c ∙ F.mul_inv c f.some, λ i h. laws.coord_times (inv c) v i ∙ ap (mul (inv c)) (f.before i h) ∙ mul-zero F (inv c))

  zero_times : (ps : List ℕ) (k : K) (v : V) → ZeroAt F R v ps → ZeroAt F R (times k v) ps
  zero_times [] k v z = tt
  zero_times (p ∷ ps) k v (z, zs) = (laws.coord_times k v p ∙ ap (mul k) z ∙ mul-zero F k, zero_times ps k v zs)

  -- the scaled remainder does as well as the row
  scaled_within : {ps : List ℕ} {L : List V} {v : V} {c : K} (r : Remainder F R ps L v) → ¬ (c ≡ zero) → (let u = times (inv c) r.left in Within R (v ∷ L) (u ∷ L) × Within R (u ∷ L) (v ∷ L))
  scaled_within {L = L} {v = v} {c = c} r z =
      let u = times (inv c) r.left in
      let left_in : InSpan R (u ∷ L) r.left = subst (InSpan R (u ∷ L)) (times_inv laws c r.left z) (span_times laws c (span_head laws u L)) in (
        within_cons (span_trans laws (within_cons left_in (within_skip laws u (within_refl laws L))) (remainder_of r)) (within_skip laws u (within_refl laws L)),
        within_cons (span_times laws (inv c) (remainder_in r)) (within_skip laws v (within_refl laws L)),
      )

  -- a row outside the span: its remainder, scaled to one at its first place, is put there
  pub added : {ps qs : List ℕ} {L M : List V} {v : V} {p : ℕ} → Stairs F R 0 ps L → (r : Remainder F R ps L v) → First F R r.left p
      → Inserted F R p (times (inv (coord r.left p)) r.left) ps L qs M → Stairs F R 0 qs M × Within R (v ∷ L) M × Within R M (v ∷ L)
  added {ps = ps} {p = p} st r f i =
      let c = coord r.left p in
      let (into, back) = inserted_within i in
      let (there, from) = scaled_within {c = c} r f.some in
      (inserted_stairs i st (omega arith) (scaled_leads f) (zero_times ps (inv c) r.left r.zeros), within_trans laws there into, within_trans laws back from)

  -- every list has a reduced one with its span
  pub stairs_exist : (L : List V) → (ps : List ℕ) × (M : List V) × Stairs F R 0 ps M × Within R L M × Within R M L
  stairs_exist [] = ([], [], stairs_nil, within_nil, within_nil)
  stairs_exist (v ∷ L) =
      let (ps, M, st, t, u) = stairs_exist L in
      let r = remainder st v in
      elim (first_place r.left) [
        | inl e ↦ (ps, M, st, within_cons (remainder_known r e) t, within_skip laws v u)
        | inr (p, f) ↦
            let (qs, N, i) = insert st (scaled_leads f) (zero_times ps (inv (coord r.left p)) r.left r.zeros) in
            let (su, there, back) = added st r f i in
            (qs, N, su, within_trans laws (within_head laws v t) there, within_trans laws back (within_head laws v u))
      ]

  -- whether a row is in a span is decided
  pub span? : (L : List V) (v : V) → Dec (InSpan R L v)
  span? L v =
      let (ps, M, st, t, u) = stairs_exist L in
      let r = remainder st v in
      elim (first_place r.left) [
        | inl e ↦ yes (span_trans laws u (remainder_known r e))
        | inr (p, f) ↦ no (λ s. f.some (ap (λ x. coord x p) (remainder_none st r (span_trans laws t s)) ∙ laws.coord_none p))
      ]
