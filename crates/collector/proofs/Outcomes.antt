-- What row adding leaves: the window as it was, or with one row more.
use Rattle.std.proofs.Common.{◌≡◌, ℕ, zero, suc, ◌+◌, ◌-◌, ◌<◌, ◌≤◌, true, false, Some, List, [], ◌∷◌, ◌++◌, map, length, get_or, take, drop, sym, refl, ap, ◌∙◌, subst, add-one, arith, length-append, length-drop}
use native.Mathlib.Decide.{dec_lt, ℕ_discrete}
use lib.ListN.{length-map}
use borrow.Author.Tests.{clash}
use Rattle.std.proofs.lemmas.List.{length-take-le, take_at, get_or-append_right, get_or-drop}
use Rattle.linear.specs.Field.{Field, reciprocal}
use Rattle.linear.specs.Rows.{Rows, RowLaws, cleared}
use Rattle.linear.specs.Span.{Span, IsDim}
use Rattle.linear.specs.Reduced.{Reduced}
use Rattle.linear.proofs.Each.{each_from}
use Rattle.linear.proofs.Fields.{reciprocal_some}
use Rattle.linear.proofs.Rows.{plus_none}
use Rattle.linear.proofs.Spans.{InSpan, Within, from_span, within_trans, within_head, within_same}
use Rattle.linear.proofs.Dims.{dim_known, dim_more, span_known}
use Rattle.linear.proofs.Numbered.{to_reduced, from_reduced}
use Rattle.linear.proofs.Adding.{Inserted, inserted_here, inserted_later, Remainder, First, added, remainder_none}
use Rattle.collector.specs.Windows.{Window, Added}
use Rattle.collector.specs.Places.{FirstFrom, Remains, Slot}
use Rattle.collector.proofs.Windows.{take_within, zeros_within, window_span, window_dim}

module _ {K V : Type 0} {F : Field K} {R : Rows K V} (laws : RowLaws F R) where
  open R use {none, plus, times, coord}

  -- nothing is left of the row
  pub added_none : {d : ℕ} {L : List V} {v r : V} → Window F R d L → Remains F R (take d L) v r → r ≡ none → Added F R d v L L d false
  added_none {d} {L} {v} w left e =
      let known : Span R L v = subst (Span R L) (sym (plus_none laws left.taken) ∙ ap (plus left.taken) (sym e) ∙ left.sum) ((window_span laws w left.taken).0 left.spans) in
      let same = span_known laws L known in
      record {
        window = w;
        spans = λ u. ((same u).1, (same u).0);
        dim = dim_known laws L (window_dim laws w) known;
        count = omega arith;
        outside = (λ t. absurd (clash t), λ out. absurd (out known));
        same = λ t. refl;
      }

  -- u at place i among the rows, of which the first i are cleared
  abbrev pub placed : V → ℕ → ℕ → List V → List V
  placed u p i L = map (cleared F R u p) (take i L) ++ (u ∷ drop i L)

  inserted_split : (u : V) (p i : ℕ) (ps : List ℕ) (L : List V) → length ps ≡ length L → i ≤ length ps
      → ((j : ℕ) → j < i → get_or ps j 0 < p) → ((j : ℕ) → i ≤ j → j < length ps → p < get_or ps j 0) → Inserted F R p u ps L (take i ps ++ (p ∷ drop i ps)) (placed u p i L)
  inserted_split u p zero ps L m h b a = inserted_here (each_from (λ q. p < q) 0 ps (λ j l. a j (omega arith) l))
  inserted_split u p (suc i) [] L m h b a = absurd (omega arith)
  inserted_split u p (suc i) (q ∷ ps) [] m h b a = absurd (omega arith)
  inserted_split u p (suc i) (q ∷ ps) (v ∷ L) m h b a =
      inserted_later (b zero (omega arith)) (inserted_split u p i ps L (omega arith) (omega arith) (λ j l. b (suc j) (omega arith)) (λ j l k. a (suc j) (omega arith) (omega arith)))

  abbrev remainder_from : {L : List V} (red : Reduced F R L) {v r : V} → Remains F R L v r → Remainder F R red.at L v
  remainder_from {L} red {v} {r} left = record {
    left = r;
    taken = left.taken;
    spans = from_span L left.spans;
    sum = left.sum;
    zeros = each_from (λ p. coord r p ≡ F.zero) 0 red.at (λ i h.
        let l : i < length L = omega (arith, red.many) in left.zeros i (get_or red.at i 0) l (red.leads i l));
  }

  remains_outside : {L : List V} (red : Reduced F R L) {v r : V} {p : ℕ} → Remains F R L v r → First F R r p → ¬ InSpan R L v
  remains_outside red {p = p} left first s =
      first.some (ap (λ x. coord x p) (remainder_none laws (from_reduced red) (remainder_from red left) s) ∙ laws.coord_none p)

  -- something is left of a row outside, and of no other
  pub window_outside : {d : ℕ} {L : List V} {v r : V} {p : ℕ} → Window F R d L → Remains F R (take d L) v r → First F R r p → ¬ Span R L v
  window_outside {d} {L} {v} w left first s = remains_outside w.reduced left first (from_span (take d L) ((window_span laws w v).1 s))

  -- a row with no first place is zero, and only such a row
  pub first_wide : {r : V} {p : ℕ} → FirstFrom F R r 0 p → R.width ≤ p → r ≡ none
  first_wide {r} f h = laws.same r none (λ i l. f.before i (omega arith) (omega arith) ∙ sym (laws.coord_none i))

  pub first_none : {r : V} {p : ℕ} → FirstFrom F R r 0 p → coord r p ≡ F.zero → r ≡ none
  first_none {r} {p} f z = at (dec_lt p R.width)
    where
      at : Dec (p < R.width) → r ≡ none
      at (yes h) = absurd (f.some h z)
      at (no h) = first_wide f (omega arith)

  pub first_some : {r : V} {p : ℕ} → FirstFrom F R r 0 p → ¬ (coord r p ≡ F.zero) → First F R r p
  first_some {r} {p} f nz = record { inside = at (dec_lt p R.width); some = nz; before = λ i h. f.before i (omega arith) h }
    where
      at : Dec (p < R.width) → p < R.width
      at (yes h) = h
      at (no h) = absurd (nz (ap (λ x. coord x p) (first_wide f (omega arith)) ∙ laws.coord_none p))

  -- the row is outside, its remainder has the first place p, and i rows lead before p
  module _ {L : List V} (red : Reduced F R L) {v r : V} (left : Remains F R L v r) {p i : ℕ} (first : First F R r p) (slot : Slot F R L p i) where
    abbrev unit : V
    unit = times (F.inv (coord r p)) r

    above : (j : ℕ) → i ≤ j → j < length L → p < get_or red.at j 0
    above j h l = at (ℕ_discrete p (get_or red.at j 0))
      where
        at : Dec (p ≡ get_or red.at j 0) → p < get_or red.at j 0
        at (yes e) = absurd (first.some (ap (coord r) e ∙ left.zeros j (get_or red.at j 0) l (red.leads j l)))
        at (no e) = let k = slot.after j (get_or red.at j 0) h l (red.leads j l) in omega arith

    placed_reduced : Reduced F R (placed unit p i L) × Within R (v ∷ L) (placed unit p i L) × Within R (placed unit p i L) (v ∷ L)
    placed_reduced =
        let many = red.many in
        let put = inserted_split unit p i red.at L many (omega (arith, slot.within)) (λ j h.
        let l : j < length L = omega (arith, slot.within) in slot.before j (get_or red.at j 0) h (red.leads j l)) (λ j h l. above j h (omega arith)) in
        let (st, there, back) = added laws (from_reduced red) (remainder_from red left) first put in
        (to_reduced st, there, back)

  length_placed : (u : V) (p i : ℕ) (L : List V) → i ≤ length L → length (placed u p i L) ≡ length L + 1
  length_placed u p i L h =
      let front = take i L in
      omega (arith, length-append (map (cleared F R u p) front) (u ∷ drop i L), length-map front (cleared F R u p), length-take-le i L h, length-drop i L)

  -- one row more: what the code leaves
  pub added_some : {d : ℕ} {L : List V} {v r : V} (w : Window F R d L) (left : Remains F R (take d L) v r) {p i : ℕ} → First F R r p → Slot F R (take d L) p i → d < length L
      → (M : List V) → M ≡ placed (times (F.inv (coord r p)) r) p i (take d L) ++ drop (d + 1) L → Added F R d v L M (d + 1) true
  added_some {d} {L} {v} {r} w left {p} {i} first slot room M e =
      let N = placed (times (F.inv (coord r p)) r) p i (take d L) in
      let (red, there, back) = placed_reduced w.reduced left first slot in
      let many : length N ≡ d + 1 = length_placed _ p i (take d L) slot.within ∙ ap (λ n. n + 1) (length-take-le d L w.within) in
      let front : take (d + 1) M ≡ N = ap (take (d + 1)) e ∙ take_at N (drop (d + 1) L) (d + 1) many in
      let window : Window F R (d + 1) M = record {
        within = omega (arith, ap length e, length-append N (drop (d + 1) L), length-drop (d + 1) L);
        reduced = subst (Reduced F R) (sym front) red;
        zeros = λ j h.
            ap (λ rows. get_or rows j none) e ∙ get_or-append_right N (drop (d + 1) L) (d + 1) j none many h ∙ get_or-drop (d + 1) L (j - (d + 1)) none
            ∙ w.zeros (d + 1 + (j - (d + 1))) (omega arith);
      } in
      let out : ¬ Span R L v = window_outside w left first in
      record {
        window = window;
        spans = within_same laws
            (within_trans laws (within_trans laws (within_head laws v (zeros_within laws d L w.zeros)) there) (subst (λ rows. Within R rows M) front (take_within laws (d + 1) M)))
            (within_trans laws (subst (Within R M) front (zeros_within laws (d + 1) M window.zeros)) (within_trans laws back (within_head laws v (take_within laws d L))));
        dim = subst (IsDim R (Span R (v ∷ L))) (sym (add-one d)) (dim_more laws L (window_dim laws w) out);
        count = refl;
        outside = (λ t. out, λ o. refl);
        same = λ t. absurd (clash (sym t));
      }

  -- a row that has an inverse at its first place is not zero there
  pub first_inverse : {r : V} {p : ℕ} {x y : K} → FirstFrom F R r 0 p → x ≡ coord r p → reciprocal F x ≡ Some y → First F R r p
  first_inverse {x = x} {y = y} f e i = first_some f (λ z. (reciprocal_some F x y i).0 (e ∙ z))

  -- the remainder times its inverse put in its slot
  pub added_placed : {d p i : ℕ} {L M : List V} {v r u : V} {x y : K} → Window F R d L → Remains F R (take d L) v r → FirstFrom F R r 0 p → x ≡ coord r p → reciprocal F x ≡ Some y
      → u ≡ times y r → Slot F R (take d L) p i → (¬ Span R L v → d < length L) → M ≡ placed u p i (take d L) ++ drop (d + 1) L → Added F R d v L M (d + 1) true
  added_placed {d} {p} {i} {L} {M} {v} {r} {u} {x} {y} w left f e chosen scaled slot room put =
      let first = first_inverse f e chosen in
      let unit : u ≡ times (F.inv (coord r p)) r = scaled ∙ ap (λ s. times s r) ((reciprocal_some F x y chosen).1 ∙ ap F.inv e) in
      added_some w left first slot (room (window_outside w left first)) M (put ∙ ap (λ z. placed z p i (take d L) ++ drop (d + 1) L) unit)
