-- A feed's packets added to a window one by one.
use Rattle.std.proofs.Common.{◌≡◌, ℕ, ◌+◌, ◌^◌, ◌<◌, ◌≤◌, Bool, true, false, cond, ltb, List, [], ◌∷◌, ◌++◌, length, take, sym, ap, ◌∙◌, subst, append_assoc, append-nil, arith, length-append, le-ltb, lt-ltb}
use Rattle.std.proofs.lemmas.List.Elements.{filter-append}
use Rattle.linear.specs.Span.{Span, Spans, SameSpan, Sum}
use Rattle.linear.proofs.Sums.{sum_spans}
use Rattle.field.specs.Alphabet.{Alphabet, Lawful}
use Rattle.packet.specs.declared.Packet.{Packet}
use Rattle.packet.specs.Packets.{packet_rows}
use Rattle.packet.proofs.Packets.{packet_laws}
use Rattle.answer.specs.declared.Drained.{Drained}
use Rattle.collector.specs.Windows.{Window, Added, PacketWindow}
use Rattle.collector.specs.Answers.{kept, DrainAnswer}
use Rattle.collector.proofs.Windows.{window_span}
use Rattle.collector.proofs.Room.{packet_added}
use Rattle.collector.proofs.Spaces.{sum_same}
use Rattle.collector.proofs.Measures.{span_after}

-- the first of what is to come joins what was seen
seen_more : {X : Type 0} {all rest after : List X} (seen : List X) (x : X) → rest ≡ x ∷ after → seen ++ rest ≡ all → (seen ++ x ∷ []) ++ after ≡ all
seen_more {X} {after = after} seen x next split = append_assoc seen (x ∷ []) after ∙ ap (λ (xs : List X). seen ++ xs) (sym next) ∙ split

kept_more : {K S : Type 0} (A : Alphabet K S) (ℓ : ℕ) (seen : List (Packet S)) (p : Packet S) (b : Bool) → ltb (A.code p.x) (A.q ^ ℓ) ≡ b
    → kept A ℓ (seen ++ p ∷ []) ≡ kept A ℓ seen ++ cond b (p ∷ []) []
kept_more A ℓ seen p b e = filter-append (λ p. ltb (A.code p.x) (A.q ^ ℓ)) seen (p ∷ []) ∙ ap (λ t. kept A ℓ seen ++ cond t (p ∷ []) []) e

-- of all the packets of a feed the rest is to come, and the window was L
pub record Filling {K S : Type 0} (A : Alphabet K S) (ℓ : ℕ) (L all rest M : List (Packet S)) (d : ℕ) (answer : Drained) : Type 0 where
  pub seen : List (Packet S)
  pub split : seen ++ rest ≡ all
  pub window : PacketWindow A ℓ d M
  pub spans : SameSpan (packet_rows A) M (L ++ kept A ℓ seen)
  pub gives : DrainAnswer A ℓ seen answer

module _ {K S : Type 0} {A : Alphabet K S} (laws : Lawful A) (ℓ : ℕ) {L all : List (Packet S)} where
  pub filling_pass : {rest after M : List (Packet S)} {d n k : ℕ} (p : Packet S) → rest ≡ p ∷ after → A.q ^ ℓ ≤ A.code p.x
      → Filling A ℓ L all rest M d (record { kept = n; passed = k }) → Filling A ℓ L all after M d (record { kept = n; passed = k + 1 })
  filling_pass {M = M} p next high f =
      let same : kept A ℓ (f.seen ++ p ∷ []) ≡ kept A ℓ f.seen = kept_more A ℓ f.seen p false (le-ltb (A.code p.x) (A.q ^ ℓ) high) ∙ append-nil (kept A ℓ f.seen) in
      record {
        seen = f.seen ++ p ∷ [];
        split = seen_more f.seen p next f.split;
        window = f.window;
        spans = subst (λ (ps : List (Packet S)). SameSpan (packet_rows A) M (L ++ ps)) (sym same) f.spans;
        gives = record { is_kept = f.gives.is_kept ∙ sym (ap length same); all = omega (arith, f.gives.all, length-append f.seen (p ∷ [])) };
      }

  pub filling_keep : {rest after M N : List (Packet S)} {d e n k : ℕ} {rose : Bool} (p : Packet S) → ℓ ≤ A.m → rest ≡ p ∷ after → A.code p.x < A.q ^ ℓ
      → Filling A ℓ L all rest M d (record { kept = n; passed = k }) → Added A.scalars (packet_rows A) d p M N e rose
      → Filling A ℓ L all after N e (record { kept = n + 1; passed = k })
  filling_keep {M = M} {N = N} p fits next low f a =
      let R = packet_rows A in
      let more : kept A ℓ (f.seen ++ p ∷ []) ≡ kept A ℓ f.seen ++ p ∷ [] = kept_more A ℓ f.seen p true (lt-ltb (A.code p.x) (A.q ^ ℓ) low) in
      let after = span_after (packet_laws laws) p M (L ++ kept A ℓ f.seen) f.spans in
      record {
        seen = f.seen ++ p ∷ [];
        split = seen_more f.seen p next f.split;
        window = packet_added laws ℓ fits f.window low a;
        spans = subst (SameSpan R N) (append_assoc L (kept A ℓ f.seen) (p ∷ []) ∙ ap (λ (ps : List (Packet S)). L ++ ps) (sym more))
            (λ v. (λ s. (after v).0 ((a.spans v).1 s), λ s. (a.spans v).0 ((after v).1 s)));
        gives = record {
          is_kept = omega (arith, f.gives.is_kept, ap length more, length-append (kept A ℓ f.seen) (p ∷ []));
          all = omega (arith, f.gives.all, length-append f.seen (p ∷ []));
        };
      }

  -- nothing is to come
  pub filling_all : {rest M : List (Packet S)} {d : ℕ} {answer : Drained} (f : Filling A ℓ L all rest M d answer) → rest ≡ [] → f.seen ≡ all
  filling_all f none = sym (append-nil f.seen) ∙ ap (λ (ps : List (Packet S)). f.seen ++ ps) (sym none) ∙ f.split

  pub filling_end : {rest M : List (Packet S)} {c d : ℕ} {answer : Drained} → Window A.scalars (packet_rows A) c L → Filling A ℓ L all rest M d answer → rest ≡ []
      → Spans (packet_rows A) (take d M) (Sum (packet_rows A) (Span (packet_rows A) (take c L)) (Span (packet_rows A) (kept A ℓ all)))
  filling_end {M = M} w f none v =
      let R = packet_rows A in
      let front = window_span (packet_laws laws) f.window.0 v in
      let whole = subst (λ (ps : List (Packet S)). SameSpan R M (L ++ kept A ℓ ps)) (filling_all f none) f.spans v in
      let joined = sum_spans (packet_laws laws) L (kept A ℓ all) v in
      let short = sum_same R (window_span (packet_laws laws) w) (Span R (kept A ℓ all)) v in
      (λ s. short.1 (joined.0 (whole.0 (front.0 s))), λ s. front.1 (whole.1 (joined.1 (short.0 s))))

  -- the counts stay small
  pub filling_few : {rest M : List (Packet S)} {d : ℕ} {answer : Drained} → Filling A ℓ L all rest M d answer → answer.kept + answer.passed + length rest ≡ length all
  filling_few {rest = rest} f = omega (arith, f.gives.all, length-append f.seen rest, ap length f.split)
