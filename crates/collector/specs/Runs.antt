-- Runs of a session, and what they have to do with the plain machine.
--   State         a session with its rows
--   Step          one call, as the call's own contract says
--   Run           a list of calls, each on what the last one left
--   Stands        a record and its rows stand for a cell
--   Represents    a session and its rows stand for a machine
--   Follows       the machine takes the same calls with the same answers, and is represented at every point
--   Faithful      every run follows the machine, from all shut
-- Assumes nothing.
use Rattle.std.specs.Prelude.{◌≡◌, ℕ, ◌*◌, ◌<◌, ◌≤◌, List, [], ◌∷◌, length, take, drop, Some, None, Option}
use Rattle.linear.specs.Span.{Span, Spans}
use Rattle.field.specs.Alphabet.{Alphabet}
use Rattle.packet.specs.declared.Packet.{Packet}
use Rattle.packet.specs.Packets.{packet_rows}
use Rattle.answer.specs.declared.Tally.{Tally}
use Rattle.collector.specs.declared.session.Session.{Session}
use Rattle.collector.specs.Windows.{PacketWindow}
use Rattle.collector.specs.Regions.{width, zero_rows}
use Rattle.collector.specs.Session.{record_of, rows_of, Allowed, Opened, Took, Drains, Solves, Tallied, Closed}
use Rattle.collector.specs.Machine.{Cell, shut, holds, Call, opened, took, drained, solved, tallied, closed, Machine, Plain}

pub record State (S : Type 0) : Type 0 where
  pub session : Session
  pub rows : List (Packet S)

module _ {K S : Type 0} (A : Alphabet K S) where
  abbrev pub Step : State S → Call S → State S → Type 0
  Step s (opened b answer) t = Opened A s.session s.rows b answer t.session × (t.rows ≡ s.rows)
  Step s (took b x y answer) t = Took A s.session s.rows b x y answer t.session t.rows
  Step s (drained b feed rest answer) t = Drains A s.session s.rows b feed answer rest t.session t.rows
  Step s (solved b output written answer) t = Solves A s.session s.rows b output answer written × (t ≡ s)
  Step s (tallied b answer) t = Tallied A s.session s.rows b answer × (t ≡ s)
  Step s (closed b answer) t = Closed A s.session s.rows b answer t.session t.rows

  abbrev pub Run : State S → List (Call S) → Type 0
  Run s [] = Unit {0}
  Run s (call ∷ calls) = (t : State S) × Step s call t × Run t calls

  abbrev pub Stands : (ℓ : ℕ) → Option Tally → List (Packet S) → Cell S → Type 0
  Stands ℓ None rows shut = rows ≡ zero_rows A (width A ℓ)
  Stands ℓ None rows (holds ps) = ⊥
  Stands ℓ (Some tally) rows shut = ⊥
  Stands ℓ (Some tally) rows (holds ps) =
      (tally.taken ≡ length ps) × PacketWindow A ℓ tally.dimension rows × Spans (packet_rows A) (take tally.dimension rows) (Span (packet_rows A) ps)

  -- `later` are the rows after the eight windows
  pub record Represents (k ℓ : ℕ) (later : List (Packet S)) (s : State S) (m : Machine S) : Type 0 where
    pub is_k : s.session.k ≡ k
    pub is_l : s.session.l ≡ ℓ
    pub allowed : Allowed k ℓ A.m
    pub eight : length s.session.numbers ≡ 8
    pub room : 8 * width A ℓ ≤ length s.rows
    pub stay : drop (8 * width A ℓ) s.rows ≡ later
    pub each : (b : ℕ) → b < 8 → Stands ℓ (record_of s.session b) (rows_of A s.session s.rows b) (m b)

  abbrev pub Follows : (k ℓ : ℕ) (later : List (Packet S)) (s : State S) (calls : List (Call S)) → Run s calls → Machine S → Type 0
  Follows k ℓ later s [] run m = Represents k ℓ later s m
  Follows k ℓ later s (call ∷ calls) run m =
      Represents k ℓ later s m × ((n : Machine S) × Plain A k ℓ m call n × Follows k ℓ later run.0 calls run.2 n)

  abbrev pub Faithful : State S → Type 0
  Faithful s = (calls : List (Call S)) (run : Run s calls) →
      Follows s.session.k s.session.l (drop (8 * width A s.session.l) s.rows) s calls run (λ _. shut)
