-- Residuals added one by one to a window of symbols: the window's dimension measures the message.
use Rattle.std.proofs.Common.{◌≡◌, ℕ, ◌+◌, ◌<◌, ◌≤◌, Bool, List, [], ◌∷◌, ◌++◌, map, length, get_or, take, replicate, sym, ap, ◌∙◌, subst}
use Rattle.std.proofs.lemmas.List.{map_more, take_all}
use Rattle.linear.specs.Rows.{Rows, RowLaws}
use Rattle.linear.specs.Field.{Field}
use Rattle.linear.specs.Span.{Span, SameSpan, IsDim}
use Rattle.linear.proofs.Spans.{within_nil, within_cons, within_trans, within_skip, within_append, within_left, within_right, within_all, within_same, span_head, span_trans, from_span, to_span}
use Rattle.linear.proofs.Dims.{dim_same}
use Rattle.field.specs.Alphabet.{Alphabet, Lawful, symbol_rows}
use Rattle.field.proofs.Symbols.{symbol_laws}
use Rattle.packet.specs.declared.Packet.{Packet}
use Rattle.linearized.specs.Code.{residual}
use Rattle.collector.specs.Windows.{Window, Added}
use Rattle.collector.proofs.Windows.{window_dim, window_span}
use Rattle.collector.proofs.Room.{window_zero, width_room}

module _ {K V : Type 0} {F : Field K} {R : Rows K V} (laws : RowLaws F R) where
  -- a row in front of one of two lists with one span, and after the other
  pub span_after : (v : V) (L M : List V) → SameSpan R L M → SameSpan R (v ∷ L) (M ++ v ∷ [])
  span_after v L M same =
      let there = within_all laws L {M = M} (λ u s. from_span M ((same u).0 (to_span s))) in
      let back = within_all laws M {M = L} (λ u s. from_span L ((same u).1 (to_span s))) in
      within_same laws
      (within_cons (span_trans laws (within_right laws M (v ∷ [])) (span_head laws v [])) (within_trans laws there (within_left laws M (v ∷ []))))
      (within_append (within_skip laws v back) (within_cons (span_head laws v L) within_nil))

-- V is a window on the residuals of the first i packets
pub record Measuring {K S : Type 0} (A : Alphabet K S) (u : List S) (L : List (Packet S)) (i d : ℕ) (V : List S) : Type 0 where
  pub window : Window A.scalars (symbol_rows A) d V
  pub spans : SameSpan (symbol_rows A) V (map (residual A u) (take i L))

module _ {K S : Type 0} {A : Alphabet K S} (laws : Lawful A) (u : List S) (L : List (Packet S)) where
  -- n rows of zero
  pub measuring_start : (n : ℕ) → Measuring A u L 0 0 (replicate n A.symbols.zero)
  measuring_start n =
      let zeros : Window A.scalars (symbol_rows A) 0 (replicate n A.symbols.zero) = window_zero (symbol_laws laws) n in
      record { window = zeros; spans = λ v. ((window_span (symbol_laws laws) zeros v).1, (window_span (symbol_laws laws) zeros v).0) }

  -- m rows suffice
  pub measuring_room : {i d : ℕ} {V : List S} {v : S} → Measuring A u L i d V → A.m ≤ length V → ¬ Span (symbol_rows A) V v → d < length V
  measuring_room measuring room out = width_room (symbol_laws laws) measuring.window room out

  pub measuring_step : {i d e : ℕ} {V W : List S} {rose : Bool} (p : Packet S) → p ≡ get_or L i p → i < length L → Measuring A u L i d V →
      Added A.scalars (symbol_rows A) d (residual A u p) V W e rose → Measuring A u L (i + 1) e W
  measuring_step {i} {V = V} {W = W} p read l measuring added = record {
    window = added.window;
    spans = subst (SameSpan (symbol_rows A) W) (ap (λ r. map (residual A u) (take i L) ++ residual A u r ∷ []) read ∙ sym (map_more (residual A u) L i p l)) (λ v.
        let after = span_after (symbol_laws laws) (residual A u p) V (map (residual A u) (take i L)) measuring.spans in
        (λ s. (after v).0 ((added.spans v).1 s), λ s. (added.spans v).0 ((after v).1 s)));
  }

  pub measuring_end : {i d : ℕ} {V : List S} → length L ≤ i → Measuring A u L i d V → IsDim (symbol_rows A) (Span (symbol_rows A) (map (residual A u) L)) d
  measuring_end {i} {d} l measuring =
      subst (λ P. IsDim (symbol_rows A) (Span (symbol_rows A) (map (residual A u) P)) d) (take_all i L l)
      (dim_same (symbol_rows A) measuring.spans (window_dim (symbol_laws laws) measuring.window))
