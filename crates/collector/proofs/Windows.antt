-- Windows: what they span, and that the space fixes them.
use Rattle.std.proofs.Common.{◌≡◌, ℕ, zero, suc, ◌+◌, ◌-◌, ◌<◌, ◌≤◌, List, [], ◌∷◌, ◌++◌, length, get_or, take, drop, sym, ap, ◌∙◌, subst, ap₂, arith, length-drop}
use native.Mathlib.Decide.{dec_lt}
use Rattle.std.proofs.lemmas.List.{length-take-le, take-append-drop, get_or-drop, get_or_past, get_or_default, same_lists}
use Rattle.std.specs.List.{IsSplitAt}
use Rattle.linear.specs.Field.{Field}
use Rattle.linear.specs.Rows.{Rows, RowLaws}
use Rattle.linear.specs.Span.{Each, Span, SameSpan, IsDim}
use Rattle.linear.specs.Reduced.{Reduced}
use Rattle.linear.proofs.Each.{each_at, each_from}
use Rattle.linear.proofs.Spans.{span_nil, Within, within_nil, within_cons, within_head, within_same}
use Rattle.linear.proofs.Dims.{dim_unique, dim_same}
use Rattle.linear.proofs.Forms.{reduced_dim, reduced_unique}
use Rattle.collector.specs.Windows.{Window}

-- a list split at d is a window exactly if the first part is reduced and the second is zeros
module _ {K V : Type 0} (F : Field K) (R : Rows K V) (d : ℕ) (L first rest : List V) (split : IsSplitAt L d first rest) where
  open R use {none}

  pub window_made : Reduced F R first → Each (λ v. v ≡ none) rest → Window F R d L
  window_made red z = record {
    within = split.0;
    reduced = subst (Reduced F R) split.1 red;
    zeros = λ i h.
        let e : d + (i - d) ≡ i = omega arith in
        ap (λ j. get_or L j none) (sym e) ∙ sym (get_or-drop d L (i - d) none) ∙ ap (λ M. get_or M (i - d) none) (sym split.2) ∙ at (i - d) (dec_lt (i - d) (length rest));
  }
    where
      at : (j : ℕ) → Dec (j < length rest) → get_or rest j none ≡ none
      at j (yes l) = each_at (λ v. v ≡ none) none rest z j l
      at j (no l) = get_or_past rest j none (omega arith)

  pub window_parts : Window F R d L → Reduced F R first × Each (λ v. v ≡ none) rest
  window_parts w = (
    subst (Reduced F R) (sym split.1) w.reduced,
    each_from (λ v. v ≡ none) none rest (λ j h. ap (λ M. get_or M j none) split.2 ∙ get_or-drop d L j none ∙ w.zeros (d + j) (omega arith)),
  )

module _ {K V : Type 0} {F : Field K} {R : Rows K V} (laws : RowLaws F R) where
  open R use {none}

  pub take_within : (d : ℕ) (L : List V) → Within R (take d L) L
  take_within zero L = within_nil
  take_within (suc d) [] = within_nil
  take_within (suc d) (v ∷ L) = within_head laws v (take_within d L)

  -- rows that are zero add nothing to those before them
  pub zeros_within : (d : ℕ) (L : List V) → ((i : ℕ) → d ≤ i → get_or L i none ≡ none) → Within R L (take d L)
  zeros_within d [] z = within_nil
  zeros_within zero (v ∷ L) z = within_cons (span_nil (z 0 (omega arith))) (zeros_within zero L (λ i h. z (suc i) (omega arith)))
  zeros_within (suc d) (v ∷ L) z = within_head laws v (zeros_within d L (λ i h. z (suc i) (omega arith)))

  pub window_span : {d : ℕ} {L : List V} → Window F R d L → SameSpan R (take d L) L
  window_span {d} {L} w = within_same laws (take_within d L) (zeros_within d L w.zeros)

  -- the dimension of what a window spans
  pub window_dim : {d : ℕ} {L : List V} → Window F R d L → IsDim R (Span R L) d
  window_dim {d} {L} w = subst (IsDim R (Span R L)) (length-take-le d L w.within) (reduced_dim laws (w.reduced, window_span w))

  -- windows of one length on one space are equal
  pub window_unique : {d e : ℕ} {L M : List V} → Window F R d L → Window F R e M → SameSpan R L M → length L ≡ length M → L ≡ M
  window_unique {d} {e} {L} {M} w x s h =
      let k : d ≡ e = dim_unique R (Span R M) (dim_same R s (window_dim w)) (window_dim x) in
      let onto : SameSpan R (take d L) M = λ v. (λ a. (s v).0 ((window_span w v).0 a), λ a. (window_span w v).1 ((s v).1 a)) in
      let front : take d L ≡ take e M = reduced_unique laws (take d L) (take e M) (w.reduced, onto) (x.reduced, window_span x) in
      let zero-at : (i : ℕ) → get_or (drop d L) i none ≡ get_or (drop e M) i none = λ i.
      get_or-drop d L i none ∙ w.zeros (d + i) (omega arith) ∙ sym (x.zeros (e + i) (omega arith)) ∙ sym (get_or-drop e M i none) in
      let many : length (drop d L) ≡ length (drop e M) = length-drop d L ∙ ap₂ (λ a b. a - b) h k ∙ sym (length-drop e M) in
      let back : drop d L ≡ drop e M = same_lists (drop d L) (drop e M) many (λ i y l.
      get_or_default (drop d L) i y none l ∙ zero-at i ∙ get_or_default (drop e M) i none y (subst (λ n. i < n) many l)) in
      sym (take-append-drop d L) ∙ ap₂ {C = List V} (λ a b. a ++ b) front back ∙ take-append-drop e M
