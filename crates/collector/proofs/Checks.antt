-- The check that rows are reduced, row by row.
--   Checked L k a    the first k rows of L are reduced and lead before a; if all are, the next leads from a on
use Rattle.std.proofs.Common.{◌≡◌, ℕ, ◌+◌, ◌<◌, ◌≤◌, List, [], ◌∷◌, ◌++◌, length, get_or, take, sym, ap, ◌∙◌, subst, arith}
use Rattle.std.proofs.lemmas.List.{take_more, take_all, get_or-take, length-take-le}
use Rattle.linear.specs.Field.{Field}
use Rattle.linear.specs.Rows.{Rows, RowLaws}
use Rattle.linear.specs.Span.{Each}
use Rattle.linear.specs.Reduced.{Leads, Reduced}
use Rattle.linear.proofs.Each.{each_push, each_map, each_from}
use Rattle.linear.proofs.Stairs.{Stairs, stairs_nil, stairs_push}
use Rattle.linear.proofs.Numbered.{to_reduced}
use Rattle.collector.specs.Places.{FirstFrom}
use Rattle.collector.proofs.LeadingPlaces.{leads_at, first_leads}
use Rattle.collector.proofs.Outcomes.{first_some}

pub record Checked {K V : Type 0} (F : Field K) (R : Rows K V) (L : List V) (k a : ℕ) : Type 0 where
  pub places : List ℕ
  pub stairs : Stairs F R 0 places (take k L)
  pub below : Each (λ p. p < a) places
  pub next : (red : Reduced F R L) → k < length L → a ≤ get_or red.at k 0

module _ {K V : Type 0} {F : Field K} {R : Rows K V} (laws : RowLaws F R) (L : List V) where
  open R use {none, coord}

  pub checked_start : Checked F R L 0 0
  checked_start = record { places = []; stairs = stairs_nil; below = tt; next = λ red h. omega arith }

  -- a row whose first coordinate is one leads there
  pub one_leads : {v : V} {p : ℕ} → FirstFrom F R v 0 p → coord v p ≡ F.one → Leads F R v p
  one_leads f o = let first = first_some laws f (λ z. F.one_not_zero (sym o ∙ z)) in (first.inside, o, first.before)

  pub checked_step : {k a p : ℕ} → Checked F R L k a → k < length L → a ≤ p → Leads F R (get_or L k none) p → Each (λ v. coord v p ≡ F.zero) (take k L) → Checked F R L (k + 1) (p + 1)
  checked_step {k} {a} {p} w h low ld z = record {
    places = w.places ++ (p ∷ []);
    stairs = subst (Stairs F R 0 (w.places ++ (p ∷ []))) (sym (take_more L k none h))
        (stairs_push w.stairs (omega arith) (each_map (λ q. q < a) (λ q. q < p) w.places (λ q b. omega arith) w.below) ld z);
    below = each_push (λ q. q < p + 1) w.places p (each_map (λ q. q < a) (λ q. q < p + 1) w.places (λ q b. omega arith) w.below) (omega arith);
    next = λ red l. omega (arith, leads_at F R red h ld, red.rise k (k + 1) (omega arith) l);
  }

  pub checked_end : {k a : ℕ} → length L ≤ k → Checked F R L k a → Reduced F R L
  checked_end {k} h w = subst (Reduced F R) (take_all k L h) (to_reduced w.stairs)

  -- what a row of a reduced list passes
  pub record Passes (k a p : ℕ) : Type 0 where
    pub low : a ≤ p
    pub one : coord (get_or L k none) p ≡ F.one
    pub zeros : Each (λ v. coord v p ≡ F.zero) (take k L)

  pub passes : {k a p : ℕ} → Checked F R L k a → k < length L → FirstFrom F R (get_or L k none) 0 p → Reduced F R L → Passes k a p
  passes {k} {a} {p} w h f red =
      let e : p ≡ get_or red.at k 0 = first_leads F R f (red.leads k h) (omega arith) in
      let many : length (take k L) ≡ k = length-take-le k L (omega arith) in
      record {
        low = omega (arith, w.next red h);
        one = ap (coord (get_or L k none)) e ∙ (red.leads k h).1;
        zeros = each_from (λ v. coord v p ≡ F.zero) none (take k L) (λ j l.
            let before : j < k = omega arith in
            ap (λ v. coord v p) (get_or-take k L j none before) ∙ ap (coord (get_or L j none)) e ∙ red.others k j h (omega arith) (omega arith));
      }
