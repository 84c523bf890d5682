-- What a packet added to a number's window does, in the words of spaces.
use Rattle.std.proofs.Common.{◌≡◌, ℕ, ◌+◌, ◌-◌, ◌^◌, ◌<◌, ◌≤◌, Bool, true, false, cond, ltb, ◌↔◌, List, [], ◌∷◌, ◌++◌, length, take, drop, set, Some, sym, refl, ap, ◌∙◌, subst, arith, le-ltb, lt-ltb}
use Rattle.std.specs.declared.ops.Range.{Range}
use borrow.Rule.Slice.PartMut.{put_mid}
use Rattle.linear.specs.Span.{Span, Spans, Sum}
use Rattle.linear.proofs.Rows.{plus_comm}
use Rattle.linear.proofs.Dims.{dim_same}
use Rattle.linear.proofs.Sums.{sum_spans}
use Rattle.field.specs.Alphabet.{Alphabet, Lawful}
use Rattle.field.proofs.Alphabets.{power_grows}
use Rattle.packet.specs.declared.Packet.{Packet}
use Rattle.packet.specs.Packets.{packet_rows}
use Rattle.packet.specs.Headers.{HeaderBelow}
use Rattle.packet.proofs.Packets.{packet_laws}
use Rattle.answer.specs.declared.Drained.{Drained}
use Rattle.answer.specs.declared.Taken.{Taken}
use Rattle.answer.specs.declared.Tally.{Tally}
use Rattle.collector.specs.Windows.{Window, Added, PacketWindow}
use Rattle.collector.specs.declared.session.Session.{Session}
use Rattle.collector.specs.Answers.{TakeAnswer, DrainAnswer, kept, packet_of}
use Rattle.collector.specs.Regions.{width, Place}
use Rattle.collector.specs.Session.{record_of, held, rows_of, taken_space, Ready, Filled, Taking, Draining}
use Rattle.collector.proofs.Spaces.{sum_same, take_answer_same}
use Rattle.collector.proofs.Regions.{window_within, window_length, part_is, put_is}
use Rattle.collector.proofs.Room.{packet_room, packet_added}
use Rattle.collector.proofs.Windows.{window_span, window_dim}

-- whether a number rose, from how much
rose_test : (d e : ℕ) (rose : Bool) → e ≡ d + cond rose 1 0 → rose ≡ ltb d e
rose_test d e true h = sym (lt-ltb d e (omega arith))
rose_test d e false h = sym (le-ltb d e (omega arith))

module _ {K S : Type 0} {A : Alphabet K S} (laws : Lawful A) where
  -- the packets of a window and more packets span the sum of the window's space and theirs
  pub window_more : {d : ℕ} {L : List (Packet S)} (ps : List (Packet S)) → Window A.scalars (packet_rows A) d L
      → (p : Packet S) → Span (packet_rows A) (ps ++ L) p ↔ Sum (packet_rows A) (Span (packet_rows A) (take d L)) (Span (packet_rows A) ps) p
  window_more {d} {L} ps w p =
      let R = packet_rows A in
      let joined = sum_spans (packet_laws laws) ps L p in
      let front = sum_same R (window_span (packet_laws laws) w) (Span R ps) p in (
        λ s. let (x, y, sx, sy, e) = joined.0 s in front.1 (y, x, sy, sx, plus_comm (packet_laws laws) y x ∙ e),
        λ s. let (y, x, sy, sx, e) = front.0 s in joined.1 (x, y, sx, sy, plus_comm (packet_laws laws) x y ∙ e),
      )

  module _ {d e : ℕ} {L M : List (Packet S)} {p : Packet S} {rose : Bool} (w : Window A.scalars (packet_rows A) d L) (a : Added A.scalars (packet_rows A) d p L M e rose) where
    pub added_spans : Spans (packet_rows A) (take e M) (Sum (packet_rows A) (Span (packet_rows A) (take d L)) (Span (packet_rows A) (p ∷ [])))
    added_spans v =
        let front = window_span (packet_laws laws) a.window v in
        let both = window_more (p ∷ []) w v in
        (λ s. both.0 ((a.spans v).1 (front.0 s)), λ s. front.1 ((a.spans v).0 (both.1 s)))

    pub added_answer : TakeAnswer A (Span (packet_rows A) (take d L)) p (record { dimension = e; rose = rose })
    added_answer = record {
      before = d;
      is_before = dim_same (packet_rows A) (λ v. ((window_span (packet_laws laws) w v).1, (window_span (packet_laws laws) w v).0)) (window_dim (packet_laws laws) w);
      is_after = dim_same (packet_rows A) (window_more (p ∷ []) w) a.dim;
      rose = rose_test d e rose a.count;
    }

-- the header of a packet of two codes
packet_header : {K S : Type 0} {A : Alphabet K S} → Lawful A → (ℓ x y : ℕ) → ℓ ≤ A.m → x < A.q ^ ℓ → HeaderBelow A ℓ (packet_of A x y)
packet_header {A = A} laws ℓ x y fits h =
    let inside : x < A.size = omega (arith, power_grows laws ℓ A.m fits, laws.extension.symbol_count) in
    subst (λ c. c < A.q ^ ℓ) (sym (laws.codes.code_element x inside)) h

-- an open number's window, as the slice `rows[place]`
module _ {K S : Type 0} {A : Alphabet K S} (laws : Lawful A) {s : Session} {rows : List (Packet S)} {b : ℕ} (ready : Ready A s rows b)
    {tally : Tally} (was : record_of s b ≡ Some tally) {range : Range ℕ} (place : Place (width A s.l) b range) where
  abbrev part : List (Packet S)
  part = take (range.end - range.start) (drop range.start rows)

  pub part_long : length part ≡ width A s.l
  part_long = ap length (part_is place rows) ∙ window_length (width A s.l) b rows (omega (arith, window_within (width A s.l) b ready.below, ready.room))

  -- it has the dimension that the number's record has
  pub part_packets : PacketWindow A s.l tally.dimension part
  part_packets =
      subst (PacketWindow A s.l tally.dimension) (sym (part_is place rows))
      (subst (λ number. PacketWindow A s.l (held number) (rows_of A s rows b)) was ready.sound)

  part_space : (p : Packet S) → Span (packet_rows A) (take tally.dimension part) p ↔ taken_space A s rows b p
  part_space =
      subst (λ L. (p : Packet S) → Span (packet_rows A) (take tally.dimension L) p ↔ taken_space A s rows b p) (sym (part_is place rows))
      (subst (λ number. (p : Packet S) → Span (packet_rows A) (take tally.dimension (rows_of A s rows b)) p ↔ Span (packet_rows A) (take (held number) (rows_of A s rows b)) p) (sym was) (λ p. (λ x. x, λ x. x)))

  pub part_room : (x y : ℕ) {p : Packet S} → x < A.q ^ s.l → p ≡ packet_of A x y → ¬ Span (packet_rows A) part p → tally.dimension < length part
  part_room x y low is out =
      packet_room laws s.l ready.allowed.2 part_packets (omega (arith, part_long)) (subst (HeaderBelow A s.l) (sym is) (packet_header laws s.l x y ready.allowed.2 low)) out

  -- changed to one that spans the sum with further packets
  filled_more : (ps : List (Packet S)) {e : ℕ} {M : List (Packet S)} → length M ≡ length part → PacketWindow A s.l e M
      → Spans (packet_rows A) (take e M) (Sum (packet_rows A) (Span (packet_rows A) (take tally.dimension part)) (Span (packet_rows A) ps))
      → Filled A s rows b (Sum (packet_rows A) (taken_space A s rows b) (Span (packet_rows A) ps)) e (put_mid range.start (range.end - range.start) rows M)
  filled_more ps {e} {M} long w spans = record {
    new = M;
    long = long ∙ part_long;
    sound = w;
    spans = λ v. let both = sum_same (packet_rows A) part_space (Span (packet_rows A) ps) v in (λ x. both.0 ((spans v).0 x), λ x. (spans v).1 (both.1 x));
    put = put_is place rows M;
  }

  -- by the packet of two codes
  pub taken_one : (x y : ℕ) {p : Packet S} (answer : Taken) {M : List (Packet S)} → x < A.q ^ s.l → p ≡ packet_of A x y
      → Added A.scalars (packet_rows A) tally.dimension p part M answer.dimension answer.rose → length M ≡ length part
      → Taking A s rows b x y answer (record { k = s.k; l = s.l; numbers = set s.numbers b (Some (record { taken = tally.taken + 1; dimension = answer.dimension })) })
      (put_mid range.start (range.end - range.start) rows M)
  taken_one x y answer {M} low is a long =
      let added = subst (λ p. Added A.scalars (packet_rows A) tally.dimension p part M answer.dimension answer.rose) is a in
      record {
        before = tally;
        was = was;
        gives = take_answer_same A part_space (added_answer laws part_packets.0 added);
        only = record { same_k = refl; same_l = refl; changed = refl };
        filled = filled_more (packet_of A x y ∷ []) long (packet_added laws s.l ready.allowed.2 part_packets (packet_header laws s.l x y ready.allowed.2 low) added) (added_spans laws part_packets.0 added);
      }

  -- by the packets of a feed
  pub drained_all : (feed : List (Packet S)) {e : ℕ} (answer : Drained) {rest M : List (Packet S)} → PacketWindow A s.l e M
      → Spans (packet_rows A) (take e M) (Sum (packet_rows A) (Span (packet_rows A) (take tally.dimension part)) (Span (packet_rows A) (kept A s.l feed)))
      → DrainAnswer A s.l feed answer → rest ≡ [] → length M ≡ length part
      → Draining A s rows b feed answer rest (record { k = s.k; l = s.l; numbers = set s.numbers b (Some (record { taken = tally.taken + answer.kept; dimension = e })) })
      (put_mid range.start (range.end - range.start) rows M)
  drained_all feed {e} answer w spans gives emptied long = record {
    before = tally;
    was = was;
    gives = gives;
    emptied = emptied;
    now = e;
    only = record { same_k = refl; same_l = refl; changed = refl };
    filled = filled_more (kept A s.l feed) long w spans;
  }
