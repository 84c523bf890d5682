-- What each call of a session does: to its answer, the session, the rows and what else it was lent.
--   record_of        the record of number b: how many packets it has taken and their dimension, or none when it is shut
--   held             the dimension held: 0 when shut
--   taken_space      the space that number b's rows span
--   base_refusals    why any call on a number is refused
--   Ready            no such reason applies
--   Only             one number's record changes
--   Filled           number b's rows become the reduced form of a space, then zeros; all other rows stay
--   Started, Opened, Took, Drained, Solved, Tallied, Closed    the calls
-- Assumes nothing.
use Rattle.std.specs.Prelude.{◌≡◌, ℕ, ◌+◌, ◌*◌, ◌^◌, ◌<◌, ◌≤◌, ◌⊎◌, List, [], ◌∷◌, ◌++◌, length, take, drop, replicate, Some, None, Option, Ok, Err, Result, slice_index_or, slice_set}
use Rattle.linear.specs.Span.{Span, Spans, Sum}
use Rattle.field.specs.Alphabet.{Alphabet}
use Rattle.packet.specs.declared.Packet.{Packet}
use Rattle.packet.specs.Packets.{packet_rows}
use Rattle.answer.specs.declared.refusal.Refusal.{Refusal}
use Rattle.answer.specs.declared.refusal.Refusal.TheVariants.{Parameters, Rows, BlockNumber, AlreadyOpen, NotOpen, Header, Payload, ListFull}
use Rattle.answer.specs.declared.Taken.{Taken}
use Rattle.answer.specs.declared.Drained.{Drained}
use Rattle.answer.specs.declared.Tally.{Tally}
use Rattle.answer.specs.declared.Solved.{Solved}
use Rattle.collector.specs.declared.session.Session.{Session}
use Rattle.answer.specs.Refusals.{Causes, First, NoCause}
use Rattle.collector.specs.Windows.{PacketWindow}
use Rattle.collector.specs.Regions.{window, put_window, width, zero_rows}
use Rattle.collector.specs.Answers.{list_limit, packet_of, TakeAnswer, kept, DrainAnswer, SolveAnswer, solve_causes}

abbrev pub record_of : Session → ℕ → Option Tally
record_of s b = slice_index_or s.numbers b None

abbrev pub held : Option Tally → ℕ
held None = 0
held (Some tally) = tally.dimension

pub record Only (s : Session) (b : ℕ) (new : Option Tally) (t : Session) : Type 0 where
  pub same_k : t.k ≡ s.k
  pub same_l : t.l ≡ s.l
  pub changed : t.numbers ≡ slice_set s.numbers b new

abbrev pub Allowed : (k ℓ m : ℕ) → Type 0
Allowed k ℓ m = (1 ≤ k) × (k ≤ ℓ) × (ℓ ≤ m)

-- n packets more pass the limit
abbrev pub Overfull : Session → ℕ → ℕ → Type 0
Overfull s b n = (tally : Tally) × (record_of s b ≡ Some tally) × (list_limit < tally.taken + n)

module _ {K S : Type 0} (A : Alphabet K S) where
  abbrev pub rows_of : Session → List (Packet S) → ℕ → List (Packet S)
  rows_of s rows b = window (width A s.l) b rows

  abbrev pub taken_space : Session → List (Packet S) → ℕ → Packet S → Type 0
  taken_space s rows b = Span (packet_rows A) (take (held (record_of s b)) (rows_of s rows b))

  -- too few rows, or number b's are not what the session holds
  abbrev pub Unsound : Session → List (Packet S) → ℕ → Type 0
  Unsound s rows b = (length rows < 8 * width A s.l) ⊎ ((b < 8) × (¬ PacketWindow A s.l (held (record_of s b)) (rows_of s rows b)))

  abbrev pub base_refusals : Session → List (Packet S) → ℕ → Causes
  base_refusals s rows b = (¬ Allowed s.k s.l A.m, Parameters) ∷ (Unsound s rows b, Rows) ∷ (8 ≤ b, BlockNumber) ∷ []

  abbrev pub open_refusals : Session → List (Packet S) → ℕ → Causes
  open_refusals s rows b = base_refusals s rows b ++ (((tally : Tally) × (record_of s b ≡ Some tally), AlreadyOpen) ∷ [])

  abbrev pub shut_refusals : Session → List (Packet S) → ℕ → Causes
  shut_refusals s rows b = base_refusals s rows b ++ ((record_of s b ≡ None, NotOpen) ∷ [])

  abbrev pub take_refusals : Session → List (Packet S) → (b x y : ℕ) → Causes
  take_refusals s rows b x y =
      shut_refusals s rows b ++ ((A.q ^ s.l ≤ x, Header) ∷ (A.q ^ A.m ≤ y, Payload) ∷ (Overfull s b 1, ListFull) ∷ [])

  abbrev pub drain_refusals : Session → List (Packet S) → ℕ → List (Packet S) → Causes
  drain_refusals s rows b feed = shut_refusals s rows b ++ ((Overfull s b (length feed), ListFull) ∷ [])

  abbrev pub start_refusals : (k ℓ : ℕ) → List (Packet S) → Causes
  start_refusals k ℓ rows = (¬ Allowed k ℓ A.m, Parameters) ∷ (length rows < 8 * width A ℓ, Rows) ∷ []

  abbrev pub Started : (k ℓ : ℕ) → List (Packet S) → Result Session Refusal → List (Packet S) → Type 0
  Started k ℓ rows (Ok s) after =
      NoCause (start_refusals k ℓ rows) × (s.k ≡ k) × (s.l ≡ ℓ) × (s.numbers ≡ replicate 8 None)
      × (after ≡ zero_rows A (8 * width A ℓ) ++ drop (8 * width A ℓ) rows)
  Started k ℓ rows (Err e) after = First (start_refusals k ℓ rows) e × (after ≡ rows)

  -- what a call tests before it looks at any number
  abbrev pub Sized : (k ℓ : ℕ) → List (Packet S) → Result ℕ Refusal → Type 0
  Sized k ℓ rows (Ok count) = Allowed k ℓ A.m × (count ≡ 8 * width A ℓ) × (count ≤ length rows)
  Sized k ℓ rows (Err e) = First (start_refusals k ℓ rows) e

  -- nothing that every call shares refuses it
  pub record Ready (s : Session) (rows : List (Packet S)) (b : ℕ) : Type 0 where
    pub allowed : Allowed s.k s.l A.m
    pub room : 8 * width A s.l ≤ length rows
    pub below : b < 8
    pub sound : PacketWindow A s.l (held (record_of s b)) (rows_of s rows b)

  -- a look at number b's record, and one that wants it open: what the calls begin with
  abbrev pub Looked : Session → List (Packet S) → ℕ → Result (Option Tally) Refusal → Type 0
  Looked s rows b (Ok tally) = Ready s rows b × (record_of s b ≡ tally)
  Looked s rows b (Err e) = First (base_refusals s rows b) e

  abbrev pub Reached : Session → List (Packet S) → ℕ → Result Tally Refusal → Type 0
  Reached s rows b (Ok tally) = Ready s rows b × (record_of s b ≡ Some tally)
  Reached s rows b (Err e) = First (shut_refusals s rows b) e

  -- the packet to take, with the record of its number
  abbrev pub Judged : Session → List (Packet S) → (b x y : ℕ) → Result (Tally × Packet S) Refusal → Type 0
  Judged s rows b x y (Ok (tally, packet)) =
      Ready s rows b × (record_of s b ≡ Some tally) × (x < A.q ^ s.l) × (y < A.q ^ A.m) × (tally.taken < list_limit) × (packet ≡ packet_of A x y)
  Judged s rows b x y (Err e) = First (take_refusals s rows b x y) e

  -- the record of a number that `more` packets may be added to
  abbrev pub Admitted : Session → List (Packet S) → (b more : ℕ) → Result Tally Refusal → Type 0
  Admitted s rows b more (Ok tally) = Ready s rows b × (record_of s b ≡ Some tally) × (tally.taken + more ≤ list_limit)
  Admitted s rows b more (Err e) = First (shut_refusals s rows b ++ ((Overfull s b more, ListFull) ∷ [])) e

  pub record Filled (s : Session) (rows : List (Packet S)) (b : ℕ) (U : Packet S → Type 0) (d : ℕ) (after : List (Packet S)) : Type 0 where
    pub new : List (Packet S)
    pub long : length new ≡ width A s.l
    pub sound : PacketWindow A s.l d new
    pub spans : Spans (packet_rows A) (take d new) U
    pub put : after ≡ put_window (width A s.l) b new rows

  abbrev pub Same : Session → List (Packet S) → Session → List (Packet S) → Type 0
  Same s rows t after = (t ≡ s) × (after ≡ rows)

  abbrev pub Opened : Session → List (Packet S) → ℕ → Result (Unit {0}) Refusal → Session → Type 0
  Opened s rows b (Ok a) t = NoCause (open_refusals s rows b) × Only s b (Some (record { taken = 0; dimension = 0 })) t
  Opened s rows b (Err e) t = First (open_refusals s rows b) e × (t ≡ s)

  pub record Taking (s : Session) (rows : List (Packet S)) (b x y : ℕ) (answer : Taken) (t : Session) (after : List (Packet S)) : Type 0 where
    pub before : Tally
    pub was : record_of s b ≡ Some before
    pub gives : TakeAnswer A (taken_space s rows b) (packet_of A x y) answer
    pub only : Only s b (Some (record { taken = before.taken + 1; dimension = answer.dimension })) t
    pub filled : Filled s rows b (Sum (packet_rows A) (taken_space s rows b) (Span (packet_rows A) (packet_of A x y ∷ []))) answer.dimension after

  abbrev pub Took : Session → List (Packet S) → (b x y : ℕ) → Result Taken Refusal → Session → List (Packet S) → Type 0
  Took s rows b x y (Ok answer) t after = NoCause (take_refusals s rows b x y) × Taking s rows b x y answer t after
  Took s rows b x y (Err e) t after = First (take_refusals s rows b x y) e × Same s rows t after

  pub record Draining (s : Session) (rows : List (Packet S)) (b : ℕ) (feed : List (Packet S)) (answer : Drained) (rest : List (Packet S)) (t : Session) (after : List (Packet S)) : Type 0 where
    pub before : Tally
    pub was : record_of s b ≡ Some before
    pub gives : DrainAnswer A s.l feed answer
    pub emptied : rest ≡ []
    pub now : ℕ
    pub only : Only s b (Some (record { taken = before.taken + answer.kept; dimension = now })) t
    pub filled : Filled s rows b (Sum (packet_rows A) (taken_space s rows b) (Span (packet_rows A) (kept A s.l feed))) now after

  abbrev pub Drains : Session → List (Packet S) → ℕ → List (Packet S) → Result Drained Refusal → List (Packet S) → Session → List (Packet S) → Type 0
  Drains s rows b feed (Ok answer) rest t after = NoCause (drain_refusals s rows b feed) × Draining s rows b feed answer rest t after
  Drains s rows b feed (Err e) rest t after = First (drain_refusals s rows b feed) e × (rest ≡ feed) × Same s rows t after

  abbrev pub Solves : Session → List (Packet S) → ℕ → List S → Result Solved Refusal → List S → Type 0
  Solves s rows b output (Ok answer) written =
      NoCause (shut_refusals s rows b ++ solve_causes A s.k s.l (taken_space s rows b) (held (record_of s b)) (length output))
      × SolveAnswer A s.k s.l (taken_space s rows b) (held (record_of s b)) output written answer
  Solves s rows b output (Err e) written =
      First (shut_refusals s rows b ++ solve_causes A s.k s.l (taken_space s rows b) (held (record_of s b)) (length output)) e × (written ≡ output)

  abbrev pub Tallied : Session → List (Packet S) → ℕ → Result Tally Refusal → Type 0
  Tallied s rows b (Ok answer) = NoCause (shut_refusals s rows b) × (record_of s b ≡ Some answer)
  Tallied s rows b (Err e) = First (shut_refusals s rows b) e

  abbrev pub Closed : Session → List (Packet S) → ℕ → Result (Unit {0}) Refusal → Session → List (Packet S) → Type 0
  Closed s rows b (Ok a) t after =
      NoCause (shut_refusals s rows b) × Only s b None t × (after ≡ put_window (width A s.l) b (zero_rows A (width A s.l)) rows)
  Closed s rows b (Err e) t after = First (shut_refusals s rows b) e × Same s rows t after
