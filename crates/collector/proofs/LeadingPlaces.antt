-- Leading places of the rows of a reduced list, found one after another.
--   From L k a    no row of L from the k-th on leads before a
use Rattle.std.proofs.Common.{◌≡◌, ℕ, ◌+◌, ◌<◌, ◌≤◌, List, length, get_or, sym, ap, ◌∙◌, subst, arith}
use native.Mathlib.Decide.{dec_lt}
use Rattle.std.proofs.lemmas.List.{get_or_read}
use Rattle.linear.specs.Field.{Field}
use Rattle.linear.specs.Rows.{Rows}
use Rattle.linear.specs.Reduced.{Leads, Reduced}
use Rattle.collector.specs.Places.{FirstFrom}

pub record From {K V : Type 0} (F : Field K) (R : Rows K V) (L : List V) (k a : ℕ) : Type 0 where
  pub low : (i p : ℕ) → k ≤ i → i < length L → Leads F R (get_or L i R.none) p → a ≤ p
  pub high : a ≤ R.width

module _ {K V : Type 0} (F : Field K) (R : Rows K V) where
  open R use {none}

  pub leads_unique : (v : V) {p q : ℕ} → Leads F R v p → Leads F R v q → p ≡ q
  leads_unique v {p} {q} lp lq = at (dec_lt p q) (dec_lt q p)
    where
      at : Dec (p < q) → Dec (q < p) → p ≡ q
      at (yes h) d = absurd (F.one_not_zero (sym lp.1 ∙ lq.2 p h))
      at (no h) (yes k) = absurd (F.one_not_zero (sym lq.1 ∙ lp.2 q k))
      at (no h) (no k) = omega arith

  -- a row of a list, as the list has it
  pub first_at : (L : List V) (k : ℕ) (v : V) {a p : ℕ} → k < length L → v ≡ get_or L k v → FirstFrom F R v a p → FirstFrom F R (get_or L k none) a p
  first_at L k v {a} {p} h is f = subst (λ u. FirstFrom F R u a p) (get_or_read L k v h is none) f

  -- the first place where a row that leads is not zero is where it leads
  pub first_leads : {v : V} {a p q : ℕ} → FirstFrom F R v a p → Leads F R v q → a ≤ q → p ≡ q
  first_leads {v} {a} {p} {q} f ld h = at (dec_lt p q) (dec_lt q p)
    where
      at : Dec (p < q) → Dec (q < p) → p ≡ q
      at (yes k) d = absurd (f.some (let l = ld.0 in omega arith) (ld.2 p k))
      at (no k) (yes l) = absurd (F.one_not_zero (sym ld.1 ∙ f.before q h l))
      at (no k) (no l) = omega arith

  pub leads_at : {L : List V} (r : Reduced F R L) {i p : ℕ} → i < length L → Leads F R (get_or L i none) p → p ≡ get_or r.at i 0
  leads_at {L} r {i} h ld = leads_unique (get_or L i none) ld (r.leads i h)

  pub from_start : (L : List V) → From F R L 0 0
  from_start L = record { low = λ i p h l ld. omega arith; high = omega arith }

  -- the k-th row's place, searched from a on
  pub from_place : {L : List V} (r : Reduced F R L) {k a p : ℕ} → From F R L k a → k < length L → FirstFrom F R (get_or L k none) a p → p ≡ get_or r.at k 0
  from_place r {k} s h f = let ld = r.leads k h in first_leads f ld (s.low k (get_or r.at k 0) (omega arith) h ld)

  pub from_inside : {L : List V} (r : Reduced F R L) {k a p : ℕ} → From F R L k a → k < length L → FirstFrom F R (get_or L k none) a p → p < R.width
  from_inside r {k} s h f = omega (arith, from_place r s h f, (r.leads k h).0)

  pub from_step : {L : List V} (r : Reduced F R L) {k a p : ℕ} → From F R L k a → k < length L → FirstFrom F R (get_or L k none) a p → From F R L (k + 1) (p + 1)
  from_step r {k} {a} {p} s h f = record {
    low = λ i q l m ld.
        let e = from_place r s h f in
        let g : q ≡ get_or r.at i 0 = leads_at r m ld in
        omega (arith, r.rise k i (omega arith) m);
    high = omega (arith, from_inside r s h f);
  }

  -- a later row leads no earlier
  pub from_later : {L : List V} (r : Reduced F R L) {k a p : ℕ} → From F R L k a → k < length L → FirstFrom F R (get_or L k none) a p → (i q : ℕ) → k ≤ i → i < length L → Leads F R (get_or L i none) q → p ≤ q
  from_later r {k} {p = p} s h f i q l m ld = at (dec_lt k i)
    where
      at : Dec (k < i) → p ≤ q
      at (yes n) = omega (arith, (from_step r s h f).low i q (omega arith) m ld)
      at (no n) = let e : k ≡ i = omega arith in omega (arith, from_place r s h f, leads_at r m ld, ap (λ j. get_or r.at j 0) e)
