-- A row less what reduced rows lead, row by row.
--   Remaining L v r k    the first k rows of L are taken from v, and r is left
use Rattle.std.proofs.Common.{◌≡◌, ℕ, ◌+◌, ◌<◌, ◌≤◌, List, length, get_or, sym, ap, ◌∙◌, subst, arith, below_more}
use Rattle.linear.specs.Field.{Field}
use Rattle.linear.specs.Rows.{Rows, RowLaws, minus, cleared}
use Rattle.linear.specs.Reduced.{Leads, Reduced}
use Rattle.linear.proofs.Rows.{none_plus, plus_assoc, minus_back, minus_keeps, minus_clears}
use Rattle.linear.proofs.Spans.{InSpan, to_span, span_zero, span_plus, span_times, span_at}
use Rattle.collector.specs.Places.{FirstFrom, Remains}
use Rattle.collector.proofs.LeadingPlaces.{leads_unique, leads_at, From, from_place}

pub record Remaining {K V : Type 0} (F : Field K) (R : Rows K V) (L : List V) (v r : V) (k : ℕ) : Type 0 where
  pub taken : V
  pub spans : InSpan R L taken
  pub sum : R.plus taken r ≡ v
  pub zeros : (i p : ℕ) → i < k → Leads F R (get_or L i R.none) p → R.coord r p ≡ F.zero

module _ {K V : Type 0} {F : Field K} {R : Rows K V} (laws : RowLaws F R) where
  open R use {none, plus, times, coord}

  pub remaining_start : (L : List V) (v : V) → Remaining F R L v v 0
  remaining_start L v = record { taken = none; spans = span_zero laws L; sum = none_plus laws v; zeros = λ i p h. absurd (let b : ⊥ = omega arith in b) }

  pub remaining_step : {L : List V} (red : Reduced F R L) {v r : V} {k a p : ℕ} → Remaining F R L v r k → From F R L k a → k < length L → FirstFrom F R (get_or L k none) a p
      → Remaining F R L v (cleared F R (get_or L k none) p r) (k + 1)
  remaining_step {L} red {v} {r} {k} {a} {p} w s h f =
      let b = get_or L k none in
      let c = coord r p in
      let place : p ≡ get_or red.at k 0 = from_place F R red s h f in
      let lead : Leads F R b p = subst (Leads F R b) (sym place) (red.leads k h) in
      record {
        taken = plus w.taken (times c b);
        spans = span_plus laws w.spans (span_times laws c (span_at laws L k h));
        sum = plus_assoc laws w.taken (times c b) (minus F R r c b) ∙ ap (plus w.taken) (minus_back laws r c b) ∙ w.sum;
        zeros = λ i q l ld. below_more (λ i. (q : ℕ) → Leads F R (get_or L i none) q → coord (minus F R r c b) q ≡ F.zero) k
            (λ i l q ld.
            let e : q ≡ get_or red.at i 0 = leads_at F R red (omega arith) ld in
            minus_keeps laws r c b q (ap (coord b) e ∙ red.others i k (omega arith) h (omega arith)) ∙ w.zeros i q l ld)
            (λ q ld. ap (coord (minus F R r c b)) (leads_unique F R b ld lead) ∙ minus_clears laws r b p lead.1)
            i l q ld;
      }

  pub remaining_end : {L : List V} {v r : V} {k : ℕ} → length L ≤ k → Remaining F R L v r k → Remains F R L v r
  remaining_end h w = record { taken = w.taken; spans = to_span w.spans; sum = w.sum; zeros = λ i p l ld. w.zeros i p (omega arith) ld }
