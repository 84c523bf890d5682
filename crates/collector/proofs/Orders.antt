-- A number's rows depend only on the space of the packets that it holds: not on their order, nor on other numbers.
use Rattle.std.proofs.Common.{◌≡◌, ℕ, ◌+◌, ◌*◌, ◌<◌, ◌≤◌, List, [], ◌∷◌, ◌++◌, length, take, Ok, Err, sym, refl, ap, ◌∙◌, subst, ⊎_elim, arith}
use native.Mathlib.Decide.{ℕ_discrete}
use Rattle.std.specs.List.Sorted.{IsPermutation}
use Rattle.std.specs.List.{AllByRecursion as All}
use Rattle.std.proofs.lemmas.List.Sorted.{IsPermutation-sym}
use Rattle.std.proofs.ByRecursion.{all_shuffled}
use Rattle.linear.specs.Field.{Field}
use Rattle.linear.specs.Rows.{Rows, RowLaws}
use Rattle.linear.specs.Span.{Span, Spans, SameSpan}
use Rattle.linear.proofs.Spans.{InSpan, Within, within_nil, within_cons, within_same, span_head, span_skip}
use Rattle.field.specs.Alphabet.{Alphabet, Lawful}
use Rattle.packet.specs.declared.Packet.{Packet}
use Rattle.packet.specs.Packets.{packet_rows}
use Rattle.packet.proofs.Packets.{packet_laws}
use Rattle.collector.specs.Windows.{PacketWindow}
use Rattle.collector.specs.Regions.{width}
use Rattle.collector.specs.Answers.{packet_of, kept}
use Rattle.collector.specs.Session.{record_of}
use Rattle.collector.specs.Machine.{Cell, shut, holds, Call, opened, took, drained, solved, tallied, closed, Machine, Put, Still, Holds, Plain}
use Rattle.collector.specs.Runs.{State, Run, Represents, Follows, Faithful}
use Rattle.collector.specs.Laws.{PlainRun, left, number_rows, Orderless}
use Rattle.collector.proofs.Windows.{window_span, window_unique}
use Rattle.collector.proofs.Regions.{window_within, window_length}
use Rattle.collector.proofs.Runs.{View, view, view_shut, view_open, cell_apart, holds_same}

module _ {S : Type 0} where
  -- equal machines stay equal
  put_alike : (l m n o : Machine S) (b : ℕ) {x y : Cell S} → x ≡ y → ((c : ℕ) → l c ≡ m c) → Put l b x n → Put m b y o → (c : ℕ) → n c ≡ o c
  put_alike l m n o b e same p q c = go (ℕ_discrete c b)
    where
      go : Dec (c ≡ b) → n c ≡ o c
      go (yes here) = ap n here ∙ p.0 ∙ e ∙ sym q.0 ∙ ap o (sym here)
      go (no there) = p.1 c there ∙ same c ∙ sym (q.1 c there)

  still_alike : (l m n o : Machine S) → ((c : ℕ) → l c ≡ m c) → Still l n → Still m o → (c : ℕ) → n c ≡ o c
  still_alike l m n o same p q c = p c ∙ same c ∙ sym (q c)

  list_alike : (l m : Machine S) (b : ℕ) {ps qs : List (Packet S)} (rs : List (Packet S)) → ((c : ℕ) → l c ≡ m c) → Holds l b ps → Holds m b qs → holds (ps ++ rs) ≡ holds (qs ++ rs)
  list_alike l m b rs same p q = ap (λ (l : List (Packet S)). holds (l ++ rs)) (holds_same (sym p ∙ same b ∙ q))

module _ {K S : Type 0} (A : Alphabet K S) (k ℓ : ℕ) where
  -- a call leaves one machine
  plain_alike : (l m n o : Machine S) (call : Call S) → ((c : ℕ) → l c ≡ m c) → Plain A k ℓ l call n → Plain A k ℓ m call o → (c : ℕ) → n c ≡ o c
  plain_alike l m n o (opened b (Ok a)) same (f, p) (g, q) = put_alike l m n o b refl same p q
  plain_alike l m n o (opened b (Err e)) same (f, p) (g, q) = still_alike l m n o same p q
  plain_alike l m n o (took b x y (Ok a)) same (f, (ps, hp, xp, p)) (g, (qs, hq, xq, q)) = put_alike l m n o b (list_alike l m b (packet_of A x y ∷ []) same hp hq) same p q
  plain_alike l m n o (took b x y (Err e)) same (f, p) (g, q) = still_alike l m n o same p q
  plain_alike l m n o (drained b feed rest (Ok a)) same (f, ep, dp, (ps, hp, p)) (g, eq, dq, (qs, hq, q)) = put_alike l m n o b (list_alike l m b (kept A ℓ feed) same hp hq) same p q
  plain_alike l m n o (drained b feed rest (Err e)) same (f, ep, p) (g, eq, q) = still_alike l m n o same p q
  plain_alike l m n o (solved b output written (Ok a)) same (f, xp, p) (g, xq, q) = still_alike l m n o same p q
  plain_alike l m n o (solved b output written (Err e)) same (f, xp, p) (g, xq, q) = still_alike l m n o same p q
  plain_alike l m n o (tallied b (Ok a)) same (f, xp, p) (g, xq, q) = still_alike l m n o same p q
  plain_alike l m n o (tallied b (Err e)) same (f, p) (g, q) = still_alike l m n o same p q
  plain_alike l m n o (closed b (Ok a)) same (f, p) (g, q) = put_alike l m n o b refl same p q
  plain_alike l m n o (closed b (Err e)) same (f, p) (g, q) = still_alike l m n o same p q

  run_alike : (l m n o : Machine S) (calls : List (Call S)) → ((c : ℕ) → l c ≡ m c) → PlainRun A k ℓ l calls n → PlainRun A k ℓ m calls o → (c : ℕ) → n c ≡ o c
  run_alike l m n o [] same p q = still_alike l m n o same p q
  run_alike l m n o (call ∷ calls) same (x, px, ps) (y, qy, qs) = run_alike x y n o calls (plain_alike l m x y call same px qy) ps qs

  -- the machine at the end of a run, and that it is represented
  pub follows_end : (later : List (Packet S)) (s : State S) (calls : List (Call S)) (run : Run A s calls) (m : Machine S) → Follows A k ℓ later s calls run m
      → (n : Machine S) × PlainRun A k ℓ m calls n × Represents A k ℓ later (left A s calls run) n
  follows_end later s [] run m r = (m, (λ c. refl), r)
  follows_end later s (call ∷ calls) run m (r, (n, plain, rest)) =
      let (end, path, represents) = follows_end later run.0 calls run.2 n rest in (end, (n, plain, path), represents)

-- packets in another order span the same
module _ {K V : Type 0} {F : Field K} {R : Rows K V} (laws : RowLaws F R) where
  all_spanned : (L : List V) → All (InSpan R L) L
  all_spanned L = go L (λ v s. s)
    where
      go : (M : List V) → ((v : V) → InSpan R M v → InSpan R L v) → All (InSpan R L) M
      go [] inside = tt
      go (v ∷ M) inside = (inside v (span_head laws v M), go M (λ w s. inside w (span_skip laws v s)))

  within_from : {L : List V} (M : List V) → All (InSpan R L) M → Within R M L
  within_from [] all = within_nil
  within_from (v ∷ M) (s, all) = within_cons s (within_from M all)

  pub shuffled_span : {L M : List V} → IsPermutation L M → SameSpan R L M
  shuffled_span {L} {M} h = within_same laws
      (within_from L (all_shuffled (InSpan R M) M L (IsPermutation-sym L M h) (all_spanned M))) (within_from M (all_shuffled (InSpan R L) L M h (all_spanned L)))

module _ {K S : Type 0} (A : Alphabet K S) (laws : Lawful A) (k ℓ : ℕ) where
  -- what an open number's rows are
  record OpenRows (rows ps : List (Packet S)) : Type 0 where
    dimension : ℕ
    sound : PacketWindow A ℓ dimension rows
    spans : SameSpan (packet_rows A) rows ps
    long : length rows ≡ width A ℓ

  open_rows : {later : List (Packet S)} (s : State S) (m : Machine S) → Represents A k ℓ later s m → (b : ℕ) (ps : List (Packet S)) → b < 8 → m b ≡ holds ps → OpenRows (number_rows A s b) ps
  open_rows s m r b ps h e = go (view A laws ℓ (record_of s.session b) (number_rows A s b) (m b) (r.each b h))
    where
      long : length (number_rows A s b) ≡ width A ℓ
      long =
          window_length (width A s.session.l) b s.rows
          (subst (λ x. b * width A x + width A x ≤ length s.rows) (sym r.is_l) (omega (arith, window_within (width A ℓ) b h, r.room)))
          ∙ ap (width A) r.is_l

      go : View A laws ℓ (record_of s.session b) (number_rows A s b) (m b) → OpenRows (number_rows A s b) ps
      go (view_shut f c z) = absurd (cell_apart (sym e ∙ c))
      go (view_open tally qs f c l o t) =
          let same : qs ≡ ps = holds_same (sym c ∙ e) in
          record {
            dimension = tally.dimension;
            sound = o;
            spans = λ v. let w = window_span (packet_laws laws) o.0 v in
                let here = subst (λ (l : List (Packet S)). Spans (packet_rows A) (take tally.dimension (number_rows A s b)) (Span (packet_rows A) l)) same t v in
                (λ x. here.0 (w.1 x), λ x. w.0 (here.1 x));
            long = long;
          }

  same_rows : {v w ps qs : List (Packet S)} → OpenRows v ps → OpenRows w qs → SameSpan (packet_rows A) ps qs → v ≡ w
  same_rows x y same = window_unique (packet_laws laws) x.sound.0 y.sound.0
      (λ v. (λ s. (y.spans v).1 ((same v).0 ((x.spans v).0 s)), λ s. (x.spans v).1 ((same v).1 ((y.spans v).0 s)))) (x.long ∙ sym y.long)

pub orderless : {K S : Type 0} (A : Alphabet K S) → Lawful A → (s : State S) → Faithful A s → Orderless A s
orderless A laws s faithful calls others run other m n path way b ps qs h at-m at_n same =
    let k = s.session.k in
    let ℓ = s.session.l in
    let (x, px, rx) = follows_end A k ℓ _ s calls run (λ _. shut) (faithful calls run) in
    let (y, py, ry) = follows_end A k ℓ _ s others other (λ _. shut) (faithful others other) in
    let spans = ⊎_elim (shuffled_span (packet_laws laws)) (λ z. z) same in
    same_rows A laws k ℓ
    (open_rows A laws k ℓ (left A s calls run) x rx b ps h (run_alike A k ℓ (λ _. shut) (λ _. shut) x m calls (λ c. refl) px path b ∙ at-m))
    (open_rows A laws k ℓ (left A s others other) y ry b qs h (run_alike A k ℓ (λ _. shut) (λ _. shut) y n others (λ c. refl) py way b ∙ at_n)) spans
