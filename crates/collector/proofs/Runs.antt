-- Every run of a session follows the plain machine.
use Rattle.std.proofs.Common.{◌≡◌, ℕ, zero as 0ₙ, suc, ◌+◌, ◌*◌, ◌^◌, ◌<◌, ◌≤◌, cond, eqb, ◌⊎◌, ◌↔◌, List, [], ◌∷◌, ◌++◌, length, get_or, take, drop, set, replicate, Some, None, Option, Ok, Err, Result, sym, refl, ap, ◌∙◌, subst, inl, inr, arith, length-append, length-set, get_or-set_other, get_or-set_same, eq-eqb, ne_eqb}
use native.Mathlib.Nat.{pow-zero}
use native.Mathlib.Decide.{ℕ_discrete}
use lib.ListN.{length-replicate}
use Rattle.std.proofs.lemmas.Option.{none-some, same_Some}
use Rattle.std.proofs.lemmas.List.{length-take-le, get_or-replicate, take_at, drop-take, take-take, take-replicate, drop-replicate}
use Rattle.linear.specs.Span.{Each, Span, Spans, Sum, IsDim}
use Rattle.linear.proofs.Dims.{spans_self}
use Rattle.linear.proofs.Forms.{reduced_dim}
use Rattle.linear.proofs.Sums.{sum_spans}
use Rattle.field.specs.Alphabet.{Alphabet, Lawful}
use Rattle.packet.specs.declared.Packet.{Packet}
use Rattle.packet.specs.Packets.{packet_rows, packet_zero}
use Rattle.packet.specs.Headers.{HeaderBelow}
use Rattle.packet.proofs.Packets.{packet_laws}
use Rattle.answer.specs.declared.refusal.Refusal.{Refusal}
use Rattle.answer.specs.declared.refusal.Refusal.TheVariants.{BlockNumber, AlreadyOpen, NotOpen, Header, Payload, ListFull}
use Rattle.answer.specs.declared.Taken.{Taken}
use Rattle.answer.specs.declared.Drained.{Drained}
use Rattle.answer.specs.declared.Tally.{Tally}
use Rattle.answer.specs.declared.Solved.{Solved}
use Rattle.collector.specs.declared.session.Session.{Session}
use Rattle.answer.specs.Refusals.{Causes, First, NoCause}
use Rattle.collector.specs.Windows.{PacketWindow}
use Rattle.collector.specs.Regions.{window, put_window, width, zero_rows}
use Rattle.collector.specs.Answers.{list_limit, packet_of, kept, SolveAnswer, solve_causes}
use Rattle.collector.specs.Session.{record_of, held, Allowed, Only, Overfull, rows_of, taken_space, Unsound, base_refusals, shut_refusals}
use Rattle.collector.specs.Machine.{Cell, shut, holds, Call, opened, took, drained, solved, tallied, closed, Machine, Put, Still, Plain}
use Rattle.collector.specs.Machine as machine
use Rattle.collector.specs.Runs.{State, Step, Run, Stands, Represents, Follows, Faithful}
use Rattle.field.proofs.Alphabets.{power_grows}
use Rattle.collector.proofs.Room.{window_zero}
use Rattle.answer.proofs.Causes.{Alike, alike_none, alike_more, same_cause, first_alike, none_alike, first_parts, none_parts}
use Rattle.collector.proofs.Spaces.{take_answer_same, solve_answer_same, solve_causes_alike, sum_same}
use Rattle.collector.proofs.Regions.{window_within, window_length, put_length, put_own, put_later, put_other, put_same}

module _ {S : Type 0} where
  -- one cell changed
  put : Machine S → ℕ → Cell S → Machine S
  put m b cell c = cond (eqb c b) cell (m c)

  put_is : (m : Machine S) (b : ℕ) (cell : Cell S) → Put m b cell (put m b cell)
  unfolding put
  put_is m b cell = (ap (λ t. cond t cell (m b)) (eq-eqb b b refl), λ c ne. ap (λ t. cond t cell (m c)) (ne_eqb c b ne))

-- of an open number that has taken nothing
abbrev fresh : Tally
fresh = record { taken = 0; dimension = 0 }

pub cell_apart : {S : Type 0} {ps : List (Packet S)} → holds ps ≡ shut → ⊥
cell_apart e = cc

pub holds_same : {S : Type 0} {ps qs : List (Packet S)} → holds ps ≡ holds qs → ps ≡ qs
holds_same e = cc

-- a window of rows that begin with eight windows of zeros
zero_window : {K S : Type 0} (A : Alphabet K S) (w b : ℕ) (rows : List (Packet S)) → b < 8 → take (8 * w) rows ≡ zero_rows A (8 * w) → window w b rows ≡ zero_rows A w
zero_window A w b rows h zeros =
    let inside = window_within w b h in
    sym (drop-take (b * w) w rows) ∙ ap (drop (b * w)) (sym (take-take (b * w + w) (8 * w) rows inside) ∙ ap (take (b * w + w)) zeros ∙ take-replicate (b * w + w) (8 * w) (packet_zero A) inside)
    ∙ drop-replicate (b * w) (b * w + w) (packet_zero A) ∙ ap (zero_rows A) (omega arith)

module _ {K S : Type 0} (A : Alphabet K S) (laws : Lawful A) where
  -- what a record, its rows and its cell are
  pub data View (ℓ : ℕ) (number : Option Tally) (w : List (Packet S)) (cell : Cell S) : Type 0 where
    view_shut : number ≡ None → cell ≡ shut → w ≡ zero_rows A (width A ℓ) → View ℓ number w cell
    view_open : (tally : Tally) (ps : List (Packet S)) → number ≡ Some tally → cell ≡ holds ps → tally.taken ≡ length ps → PacketWindow A ℓ tally.dimension w
        → Spans (packet_rows A) (take tally.dimension w) (Span (packet_rows A) ps) → View ℓ number w cell

  pub view : (ℓ : ℕ) (number : Option Tally) (w : List (Packet S)) (cell : Cell S) → Stands A ℓ number w cell → View ℓ number w cell
  view ℓ None w shut h = view_shut refl refl h
  view ℓ None w (holds ps) h = absurd h
  view ℓ (Some tally) w shut h = absurd h
  view ℓ (Some tally) w (holds ps) (e, s, t) = view_open tally ps refl refl e s t

  stands_same : (ℓ : ℕ) {x y : Option Tally} {v w : List (Packet S)} {c d : Cell S} → x ≡ y → v ≡ w → c ≡ d → Stands A ℓ y w d → Stands A ℓ x v c
  stands_same ℓ {x} {y} {v} {w} {c} {d} e f g h =
      subst (λ number. Stands A ℓ number v c) (sym e) (subst (λ rows. Stands A ℓ y rows c) (sym f) (subst (Stands A ℓ y w) (sym g) h))

  -- zeros are the reduced form of nothing
  zeros_sound : (ℓ n : ℕ) → PacketWindow A ℓ 0 (zero_rows A n)
  zeros_sound ℓ n = (window_zero (packet_laws laws) n, headers n)
    where
      headers : (n : ℕ) → Each (HeaderBelow A ℓ) (zero_rows A n)
      headers 0ₙ = tt
      headers (suc n) = (subst (λ c. c < A.q ^ ℓ) (sym laws.codes.code_zero) (omega (arith, pow-zero A.q, power_grows laws 0 ℓ (omega arith))), headers n)

  module _ (s : State S) (m : Machine S) (later : List (Packet S)) (r : Represents A s.session.k s.session.l later s m) where
    at : (b : ℕ) → b < 8 → View s.session.l (record_of s.session b) (rows_of A s.session s.rows b) (m b)
    at b h = view s.session.l (record_of s.session b) (rows_of A s.session s.rows b) (m b) (r.each b h)

    sound_at : (b : ℕ) → View s.session.l (record_of s.session b) (rows_of A s.session s.rows b) (m b) → PacketWindow A s.session.l (held (record_of s.session b)) (rows_of A s.session s.rows b)
    sound_at b (view_shut e c z) =
        subst (λ number. PacketWindow A s.session.l (held number) (rows_of A s.session s.rows b)) (sym e)
        (subst (PacketWindow A s.session.l 0) (sym z) (zeros_sound s.session.l (width A s.session.l)))
    sound_at b (view_open tally ps e c l o t) = subst (λ number. PacketWindow A s.session.l (held number) (rows_of A s.session s.rows b)) (sym e) o

    sound : (b : ℕ) → ¬ Unsound A s.session s.rows b
    sound b (inl short) = omega (arith, r.room)
    sound b (inr (h, n)) = n (sound_at b (at b h))

    -- what refuses a call on the session refuses it on the machine
    reach_first : (b : ℕ) {cs ds : Causes} (e : Refusal) → (b < 8 → Alike cs ds) → First (base_refusals A s.session s.rows b ++ cs) e → First ((8 ≤ b, BlockNumber) ∷ ds) e
    reach_first b e a (inl (p, q)) = absurd (p r.allowed)
    reach_first b e a (inr (n, inl (p, q))) = absurd (sound b p)
    reach_first b e a (inr (n, inr (o, inl p))) = inl p
    reach_first b e a (inr (n, inr (o, inr (h, f)))) = inr (h, first_alike e (a (omega (arith, h))) f)

    reach_none : (b : ℕ) {cs ds : Causes} → (b < 8 → Alike cs ds) → NoCause (base_refusals A s.session s.rows b ++ cs) → (b < 8) × NoCause ((8 ≤ b, BlockNumber) ∷ ds)
    reach_none b a (n, (o, (h, f))) = let below : b < 8 = omega (arith, h) in (below, (h, none_alike (a below) f))

    -- the record is shut or open as the cell is
    shut_cell : (b : ℕ) → b < 8 → (record_of s.session b ≡ None) ↔ (m b ≡ shut)
    shut_cell b h = go (at b h)
      where
        go : View s.session.l (record_of s.session b) (rows_of A s.session s.rows b) (m b) → (record_of s.session b ≡ None) ↔ (m b ≡ shut)
        go (view_shut e c z) = (λ _. c, λ _. e)
        go (view_open tally ps e c l o t) = (λ z. absurd (none-some tally (sym z ∙ e)), λ z. absurd (cell_apart (sym c ∙ z)))

    -- number b is open with this tally, and these are its packets
    record OpenCell (b : ℕ) (tally : Tally) : Type 0 where
      kept_list : List (Packet S)
      is_cell : m b ≡ holds kept_list
      is_long : tally.taken ≡ length kept_list
      is_sound : PacketWindow A s.session.l tally.dimension (rows_of A s.session s.rows b)
      is_span : Spans (packet_rows A) (take tally.dimension (rows_of A s.session s.rows b)) (Span (packet_rows A) kept_list)

    open_cell : (b : ℕ) (tally : Tally) → b < 8 → record_of s.session b ≡ Some tally → OpenCell b tally
    open_cell b tally h e = go (at b h)
      where
        go : View s.session.l (record_of s.session b) (rows_of A s.session s.rows b) (m b) → OpenCell b tally
        go (view_shut f c z) = absurd (none-some tally (sym f ∙ e))
        go (view_open other ps f cell l o t) =
            subst (OpenCell b) (same_Some other tally (sym f ∙ e)) (record { kept_list = ps; is_cell = cell; is_long = l; is_sound = o; is_span = t })

    -- and the other way
    open_record : (b : ℕ) (ps : List (Packet S)) → b < 8 → m b ≡ holds ps → (tally : Tally) × (record_of s.session b ≡ Some tally) × (tally.taken ≡ length ps)
    open_record b ps h e = go (at b h)
      where
        go : View s.session.l (record_of s.session b) (rows_of A s.session s.rows b) (m b) → (tally : Tally) × (record_of s.session b ≡ Some tally) × (tally.taken ≡ length ps)
        go (view_shut f c z) = absurd (cell_apart (sym e ∙ c))
        go (view_open tally qs f c l o t) = let same : qs ≡ ps = cc in (tally, f, l ∙ ap length same)

    overfull_cell : (b k : ℕ) → b < 8 → Overfull s.session b k ↔ machine.Overfull m b k
    overfull_cell b k h = (
      λ (tally, e, l). let o = open_cell b tally h e in (o.kept_list, o.is_cell, subst (λ x. list_limit < x + k) o.is_long l),
      λ (ps, c, l). let (tally, e, long) = open_record b ps h c in (tally, e, subst (λ x. list_limit < x + k) (sym long) l),
    )

    -- the space of the rows is the span of the list
    same_space : (b : ℕ) (tally : Tally) (o : OpenCell b tally) → record_of s.session b ≡ Some tally → (p : Packet S) → taken_space A s.session s.rows b p ↔ Span (packet_rows A) o.kept_list p
    same_space b tally o e =
        subst (λ number. (p : Packet S) → Span (packet_rows A) (take (held number) (rows_of A s.session s.rows b)) p ↔ Span (packet_rows A) o.kept_list p) (sym e) o.is_span

    -- one record and its rows change together with its cell
    changed : (t : State S) (b : ℕ) (number : Option Tally) (new : List (Packet S)) (cell : Cell S) → b < 8 → Only s.session b number t.session
        → length new ≡ width A s.session.l → t.rows ≡ put_window (width A s.session.l) b new s.rows
        → Stands A s.session.l number new cell → Represents A s.session.k s.session.l later t (put m b cell)
    changed t b number new cell h only long rows stands =
        record {
          is_k = only.same_k;
          is_l = only.same_l;
          allowed = r.allowed;
          eight = ap length only.changed ∙ length-set s.session.numbers b number ∙ r.eight;
          room = subst (λ n. 8 * width A s.session.l ≤ n) (sym (ap length rows ∙ put_length (width A s.session.l) b new s.rows long inside)) r.room;
          stay = ap (drop (8 * width A s.session.l)) rows ∙ put_later (width A s.session.l) b new s.rows long inside (8 * width A s.session.l) (window_within (width A s.session.l) b h) ∙ r.stay;
          each = λ c k. each c k (ℕ_discrete c b);
        }
      where
        inside : b * width A s.session.l + width A s.session.l ≤ length s.rows
        inside = omega (arith, window_within (width A s.session.l) b h, r.room)

        rows_at : (c : ℕ) → rows_of A t.session t.rows c ≡ window (width A s.session.l) c (put_window (width A s.session.l) b new s.rows)
        rows_at c = ap (λ ℓ. window (width A ℓ) c t.rows) only.same_l ∙ ap (window (width A s.session.l) c) rows

        each : (c : ℕ) → c < 8 → Dec (c ≡ b) → Stands A s.session.l (record_of t.session c) (rows_of A t.session t.rows c) (put m b cell c)
        each c k (yes e) =
            let lt : b < length s.session.numbers = omega (arith, r.eight) in
            stands_same s.session.l (ap (λ table. get_or table c None) only.changed ∙ ap (λ i. get_or (set s.session.numbers b number) i None) e ∙ get_or-set_same s.session.numbers b number None lt)
            (rows_at c ∙ ap (λ i. window (width A s.session.l) i (put_window (width A s.session.l) b new s.rows)) e ∙ put_own (width A s.session.l) b new s.rows long inside)
            (ap (put m b cell) e ∙ (put_is m b cell).0) stands
        each c k (no ne) =
            stands_same s.session.l (ap (λ table. get_or table c None) only.changed ∙ get_or-set_other s.session.numbers b c number None ne)
            (rows_at c ∙ put_other (width A s.session.l) b new s.rows long inside c ne) ((put_is m b cell).1 c ne) (r.each c k)

    abbrev Onward : Call S → State S → Type 0
    Onward call t = (n : Machine S) × Plain A s.session.k s.session.l m call n × Represents A s.session.k s.session.l later t n

    still : Still m m
    still c = refl

    -- a call that changes neither session nor rows
    stayed : (t : State S) → t.session ≡ s.session → t.rows ≡ s.rows → Represents A s.session.k s.session.l later t m
    stayed t e f = subst (λ (x : State S). Represents A s.session.k s.session.l later x m) (λ i. record { session = sym e i; rows = sym f i }) r

    same_state : (t : State S) → t ≡ s → Represents A s.session.k s.session.l later t m
    same_state t e = stayed t (ap (λ (x : State S). x.session) e) (ap (λ (x : State S). x.rows) e)

    open_alike : (b : ℕ) → b < 8 → Alike (((tally : Tally) × (record_of s.session b ≡ Some tally), AlreadyOpen) ∷ []) (((ps : List (Packet S)) × machine.Holds m b ps, AlreadyOpen) ∷ [])
    open_alike b h =
        alike_more (λ (tally, e). let o = open_cell b tally h e in (o.kept_list, o.is_cell), λ (ps, c). let (tally, e, l) = open_record b ps h c in (tally, e)) alike_none

    shut_alike : (b : ℕ) {cs ds : Causes} → b < 8 → Alike cs ds → Alike ((record_of s.session b ≡ None, NotOpen) ∷ cs) ((m b ≡ shut, NotOpen) ∷ ds)
    shut_alike b h a = alike_more (shut_cell b h) a

    shut_first : (b : ℕ) (e : Refusal) → First (shut_refusals A s.session s.rows b) e → First (machine.shut_refusals m b) e
    shut_first b e f = reach_first b e (λ h. shut_alike b h alike_none) f

    shut_none : (b : ℕ) → NoCause (shut_refusals A s.session s.rows b) → (b < 8) × NoCause (machine.shut_refusals m b)
    shut_none b none = reach_none b (λ h. shut_alike b h alike_none) none

    take_alike : (b x y : ℕ) → b < 8 → Alike
        ((A.q ^ s.session.l ≤ x, Header) ∷ (A.q ^ A.m ≤ y, Payload) ∷ (Overfull s.session b 1, ListFull) ∷ [])
        ((A.q ^ s.session.l ≤ x, Header) ∷ (A.q ^ A.m ≤ y, Payload) ∷ (machine.Overfull m b 1, ListFull) ∷ [])
    take_alike b x y h = alike_more same_cause (alike_more same_cause (alike_more (overfull_cell b 1 h) alike_none))

    drain_alike : (b k : ℕ) → b < 8 → Alike ((Overfull s.session b k, ListFull) ∷ []) ((machine.Overfull m b k, ListFull) ∷ [])
    drain_alike b k h = alike_more (overfull_cell b k h) alike_none

    rows_long : (b : ℕ) → b < 8 → length (rows_of A s.session s.rows b) ≡ width A s.session.l
    rows_long b h =
        let w = width A s.session.l in
        window_length w b s.rows (omega (arith, window_within w b h, r.room))

    open_stands : (b : ℕ) → b < 8 → ¬ ((tally : Tally) × (record_of s.session b ≡ Some tally))
        → Stands A s.session.l (Some fresh) (rows_of A s.session s.rows b) (holds [])
    open_stands b h not-open = go (at b h)
      where
        go : View s.session.l (record_of s.session b) (rows_of A s.session s.rows b) (m b) → Stands A s.session.l (Some fresh) (rows_of A s.session s.rows b) (holds [])
        go (view_shut e c z) = (refl, subst (PacketWindow A s.session.l 0) (sym z) (zeros_sound s.session.l (width A s.session.l)), spans_self (packet_rows A) [])
        go (view_open tally ps e c l o t) = absurd (not-open (tally, e))

    on_open : (t : State S) (b : ℕ) (answer : Result (Unit {0}) Refusal) → Step A s (opened b answer) t → Onward (opened b answer) t
    on_open t b (Ok a) ((none, only), rows) =
        let (h, n) = reach_none b (open_alike b) none in (
          put m b (holds []),
          (n, put_is m b (holds [])),
          changed t b (Some fresh) (rows_of A s.session s.rows b) (holds []) h only (rows_long b h)
              (rows ∙ sym (put_same (width A s.session.l) b s.rows)) (open_stands b h none.1.1.1.0),
        )
    on_open t b (Err e) ((f, same), rows) = (m, (reach_first b e (open_alike b) f, still), stayed t same rows)

    -- rows that span the sum of the space and of further packets stand for the longer list
    longer : (b : ℕ) (tally : Tally) (o : OpenCell b tally) → record_of s.session b ≡ Some tally → (ps : List (Packet S)) (now : ℕ) (new : List (Packet S))
        → Spans (packet_rows A) (take now new) (Sum (packet_rows A) (taken_space A s.session s.rows b) (Span (packet_rows A) ps))
        → Spans (packet_rows A) (take now new) (Span (packet_rows A) (o.kept_list ++ ps))
    longer b tally o e ps now new spans p =
        let both = sum_same (packet_rows A) (same_space b tally o e) (Span (packet_rows A) ps) p in
        let joined = sum_spans (packet_laws laws) o.kept_list ps p in
        (λ q. joined.1 (both.0 ((spans p).0 q)), λ q. (spans p).1 (both.1 (joined.0 q)))

    on_take : (t : State S) (b x y : ℕ) (answer : Result Taken Refusal) → Step A s (took b x y answer) t → Onward (took b x y answer) t
    on_take t b x y (Ok a) (none, taking) =
        let (h, n) = reach_none b (λ h. shut_alike b h (take_alike b x y h)) none in
        let o = open_cell b taking.before h taking.was in
        let ps = o.kept_list ++ packet_of A x y ∷ [] in
        let filled = taking.filled in
        let long : taking.before.taken + 1 ≡ length ps = omega (arith, o.is_long, length-append o.kept_list (packet_of A x y ∷ [])) in (
          put m b (holds ps),
          (n, (o.kept_list, o.is_cell, take_answer_same A (same_space b taking.before o taking.was) taking.gives, put_is m b (holds ps))),
          changed t b (Some (record { taken = taking.before.taken + 1; dimension = a.dimension })) filled.new (holds ps) h taking.only filled.long filled.put
              (long, filled.sound, longer b taking.before o taking.was (packet_of A x y ∷ []) a.dimension filled.new filled.spans),
        )
    on_take t b x y (Err e) (f, (same, rows)) = (m, (reach_first b e (λ h. shut_alike b h (take_alike b x y h)) f, still), stayed t same rows)

    on_drain : (t : State S) (b : ℕ) (feed rest : List (Packet S)) (answer : Result Drained Refusal) → Step A s (drained b feed rest answer) t → Onward (drained b feed rest answer) t
    on_drain t b feed rest (Ok a) (none, draining) =
        let (h, n) = reach_none b (λ h. shut_alike b h (drain_alike b (length feed) h)) none in
        let o = open_cell b draining.before h draining.was in
        let ps = o.kept_list ++ kept A s.session.l feed in
        let filled = draining.filled in
        let long : draining.before.taken + a.kept ≡ length ps = omega (arith, o.is_long, length-append o.kept_list (kept A s.session.l feed), draining.gives.is_kept) in (
          put m b (holds ps),
          (n, draining.emptied, draining.gives, (o.kept_list, o.is_cell, put_is m b (holds ps))),
          changed t b (Some (record { taken = draining.before.taken + a.kept; dimension = draining.now })) filled.new (holds ps) h draining.only filled.long filled.put
              (long, filled.sound, longer b draining.before o draining.was (kept A s.session.l feed) draining.now filled.new filled.spans),
        )
    on_drain t b feed rest (Err e) (f, left, (same, rows)) =
        (m, (reach_first b e (λ h. shut_alike b h (drain_alike b (length feed) h)) f, left, still), stayed t same rows)

    -- a number that is not shut is open
    opened_record : (b : ℕ) → ¬ (record_of s.session b ≡ None) → (tally : Tally) × (record_of s.session b ≡ Some tally)
    opened_record b not_shut = go (record_of s.session b) refl
      where
        go : (number : Option Tally) → record_of s.session b ≡ number → (tally : Tally) × (record_of s.session b ≡ Some tally)
        go None e = absurd (not_shut e)
        go (Some tally) e = (tally, e)

    -- the dimension held is that of the list's span
    held_dim : (b : ℕ) (tally : Tally) (o : OpenCell b tally) → IsDim (packet_rows A) (Span (packet_rows A) o.kept_list) tally.dimension
    held_dim b tally o =
        subst (IsDim (packet_rows A) (Span (packet_rows A) o.kept_list)) (length-take-le tally.dimension (rows_of A s.session s.rows b) o.is_sound.0.within)
        (reduced_dim (packet_laws laws) (o.is_sound.0.reduced, o.is_span))

    on_tally : (t : State S) (b : ℕ) (answer : Result Tally Refusal) → Step A s (tallied b answer) t → Onward (tallied b answer) t
    on_tally t b (Ok a) ((none, is), same) =
        let (h, n) = shut_none b none in
        let o = open_cell b a h is in
        (m, (n, (o.kept_list, o.is_cell, o.is_long, held_dim b a o), still), same_state t same)
    on_tally t b (Err e) (f, same) =
        (m, (shut_first b e f, still), same_state t same)

    on_close : (t : State S) (b : ℕ) (answer : Result (Unit {0}) Refusal) → Step A s (closed b answer) t → Onward (closed b answer) t
    on_close t b (Ok a) (none, only, rows) =
        let (h, n) = shut_none b none in
        let w = width A s.session.l in
        (put m b shut, (n, put_is m b shut), changed t b None (zero_rows A w) shut h only (length-replicate w (packet_zero A)) rows refl)
    on_close t b (Err e) (f, (same, rows)) = (m, (shut_first b e f, still), stayed t same rows)

    -- what solve sees of an open number
    record SolveView (b : ℕ) : Type 0 where
      below : b < 8
      not_refused : NoCause (machine.shut_refusals m b)
      tally : Tally
      was : record_of s.session b ≡ Some tally
      cell : OpenCell b tally

    solve_view : (b : ℕ) → NoCause (shut_refusals A s.session s.rows b) → SolveView b
    solve_view b none =
        let (h, c) = shut_none b none in
        let (tally, e) = opened_record b none.1.1.1.0 in
        record { below = h; not_refused = c; tally = tally; was = e; cell = open_cell b tally h e }

    view_alike : (b : ℕ) (v : SolveView b) (places : ℕ) → Alike
        (solve_causes A s.session.k s.session.l (taken_space A s.session s.rows b) v.tally.dimension places)
        (solve_causes A s.session.k s.session.l (Span (packet_rows A) v.cell.kept_list) v.tally.dimension places)
    view_alike b v places = solve_causes_alike A (same_space b v.tally v.cell v.was) s.session.k s.session.l v.tally.dimension places

    on_solve : (t : State S) (b : ℕ) (output written : List S) (answer : Result Solved Refusal) → Step A s (solved b output written answer) t → Onward (solved b output written answer) t
    on_solve t b output written (Ok a) ((none, gives), same) =
        let (reached, causes) = none_parts (shut_refusals A s.session s.rows b) (solve_causes A s.session.k s.session.l (taken_space A s.session s.rows b) (held (record_of s.session b)) (length output)) none in
        let v = solve_view b reached in
        let d = ap held v.was in
        let U = taken_space A s.session s.rows b in
        let causes-d = subst (λ r. NoCause (solve_causes A s.session.k s.session.l U r (length output))) d causes in
        let gives-d = subst (λ r. SolveAnswer A s.session.k s.session.l U r output written a) d gives in (
          m,
          (
            v.not_refused,
            (
              v.cell.kept_list,
              v.tally.dimension,
              v.cell.is_cell,
              held_dim b v.tally v.cell,
              none_alike (view_alike b v (length output)) causes-d,
              solve_answer_same A (same_space b v.tally v.cell v.was) gives-d,
            ),
            still,
          ),
          same_state t same,
        )
    on_solve t b output written (Err e) ((f, left), same) = (
      m,
      (go (first_parts (shut_refusals A s.session s.rows b) (solve_causes A s.session.k s.session.l (taken_space A s.session s.rows b) (held (record_of s.session b)) (length output)) e f), left, still),
      same_state t same,
    )
      where
        U : Packet S → Type 0
        U = taken_space A s.session s.rows b

        go : First (shut_refusals A s.session s.rows b) e ⊎ (NoCause (shut_refusals A s.session s.rows b) × First (solve_causes A s.session.k s.session.l (taken_space A s.session s.rows b) (held (record_of s.session b)) (length output)) e)
            → First (machine.shut_refusals m b) e
            ⊎ ((ps : List (Packet S)) × (d : ℕ) × NoCause (machine.shut_refusals m b) × machine.Holds m b ps × IsDim (packet_rows A) (Span (packet_rows A) ps) d
            × First (solve_causes A s.session.k s.session.l (Span (packet_rows A) ps) d (length output)) e)
        go (inl f) = inl (shut_first b e f)
        go (inr (none, f)) =
            let v = solve_view b none in
            let f-d = subst (λ r. First (solve_causes A s.session.k s.session.l (taken_space A s.session s.rows b) r (length output)) e) (ap held v.was) f in
            inr (v.cell.kept_list, v.tally.dimension, v.not_refused, v.cell.is_cell, held_dim b v.tally v.cell, first_alike e (view_alike b v (length output)) f-d)

    onward : (t : State S) (call : Call S) → Step A s call t → Onward call t
    onward t (opened b answer) step = on_open t b answer step
    onward t (took b x y answer) step = on_take t b x y answer step
    onward t (drained b feed rest answer) step = on_drain t b feed rest answer step
    onward t (solved b output written answer) step = on_solve t b output written answer step
    onward t (tallied b answer) step = on_tally t b answer step
    onward t (closed b answer) step = on_close t b answer step

  -- the same for the numbers k and ℓ that the session had at first
  pub step_follows : (k ℓ : ℕ) (later : List (Packet S)) (s t : State S) (m : Machine S) (call : Call S) → Represents A k ℓ later s m → Step A s call t
      → (n : Machine S) × Plain A k ℓ m call n × Represents A k ℓ later t n
  step_follows k ℓ later s t m call r step =
      subst (λ x. (n : Machine S) × Plain A k x m call n × Represents A k x later t n) r.is_l
      (subst (λ x. (n : Machine S) × Plain A x s.session.l m call n × Represents A x s.session.l later t n) r.is_k
      (onward s m later (subst (λ x. Represents A s.session.k x later s m) (sym r.is_l) (subst (λ x. Represents A x ℓ later s m) (sym r.is_k) r)) t call step))

  run_follows : (k ℓ : ℕ) (later : List (Packet S)) (s : State S) (m : Machine S) → Represents A k ℓ later s m → (calls : List (Call S)) (run : Run A s calls) → Follows A k ℓ later s calls run m
  run_follows k ℓ later s m r [] run = r
  run_follows k ℓ later s m r (call ∷ calls) run =
      let (n, plain, next) = step_follows k ℓ later s run.0 m call r run.1 in
      (r, (n, plain, run_follows k ℓ later run.0 n next calls run.2))

  -- a fresh session stands for the machine with all numbers shut
  fresh_represents : (s : State S) → Allowed s.session.k s.session.l A.m → s.session.numbers ≡ replicate 8 None
      → 8 * width A s.session.l ≤ length s.rows → take (8 * width A s.session.l) s.rows ≡ zero_rows A (8 * width A s.session.l)
      → Represents A s.session.k s.session.l (drop (8 * width A s.session.l) s.rows) s (λ _. shut)
  fresh_represents s allowed all-shut room zeros = record {
    is_k = refl;
    is_l = refl;
    allowed = allowed;
    eight = ap length all-shut;
    room = room;
    stay = refl;
    each = λ b h. stands_same s.session.l (ap (λ table. get_or table b None) all-shut ∙ get_or-replicate 8 b None None h) (zero_window A (width A s.session.l) b s.rows h zeros) refl refl;
  }

  pub faithful : (s : State S) → Allowed s.session.k s.session.l A.m → s.session.numbers ≡ replicate 8 None
      → 8 * width A s.session.l ≤ length s.rows → take (8 * width A s.session.l) s.rows ≡ zero_rows A (8 * width A s.session.l) → Faithful A s
  faithful s allowed all-shut room zeros calls run =
      run_follows s.session.k s.session.l (drop (8 * width A s.session.l) s.rows) s (λ _. shut) (fresh_represents s allowed all-shut room zeros) calls run

  -- the same of what `start` gives
  pub fresh_faithful : (k ℓ : ℕ) (before : List (Packet S)) (s : Session) (rows : List (Packet S)) → Allowed k ℓ A.m → 8 * width A ℓ ≤ length before
      → s ≡ record { k = k; l = ℓ; numbers = replicate 8 None } → rows ≡ zero_rows A (8 * width A ℓ) ++ drop (8 * width A ℓ) before
      → Faithful A (record { session = s; rows = rows })
  fresh_faithful k ℓ before s rows allowed room e f =
      let n = 8 * width A ℓ in
      let zeros = length-replicate n (packet_zero A) in
      let here : Faithful A (record { session = record { k = k; l = ℓ; numbers = replicate 8 None }; rows = zero_rows A n ++ drop n before }) =
      faithful (record { session = record { k = k; l = ℓ; numbers = replicate 8 None }; rows = zero_rows A n ++ drop n before }) allowed refl
      (omega (arith, length-append (zero_rows A n) (drop n before), zeros)) (take_at (zero_rows A n) (drop n before) n zeros) in
      subst (λ (x : State S). Faithful A x) (λ i. record { session = sym e i; rows = sym f i }) here

pub ok_same : {s t : Session} → ◌≡◌ {A = Result Session Refusal} (Ok s) (Ok t) → s ≡ t
ok_same e = cc
