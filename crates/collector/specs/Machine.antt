-- The plain machine: each of eight numbers is shut, or open with a list of packets. It knows no rows and no elimination.
--   Cell       shut, or open with the packets kept
--   Put        only one number's cell changes
--   Still      no cell changes
--   Call       a call with its answer, and what it was lent before and after
--   Plain      the machine's step at a call
-- Assumes nothing.
use Rattle.std.specs.Prelude.{◌≡◌, ℕ, ◌+◌, ◌^◌, ◌<◌, ◌≤◌, ◌≢◌, ◌⊎◌, List, [], ◌∷◌, ◌++◌, length, Ok, Err, Result}
use Rattle.linear.specs.Span.{Span, IsDim}
use Rattle.field.specs.Alphabet.{Alphabet}
use Rattle.packet.specs.declared.Packet.{Packet}
use Rattle.packet.specs.Packets.{packet_rows}
use Rattle.answer.specs.declared.refusal.Refusal.{Refusal}
use Rattle.answer.specs.declared.refusal.Refusal.TheVariants.{BlockNumber, AlreadyOpen, NotOpen, Header, Payload, ListFull}
use Rattle.answer.specs.declared.Taken.{Taken}
use Rattle.answer.specs.declared.Drained.{Drained}
use Rattle.answer.specs.declared.Tally.{Tally}
use Rattle.answer.specs.declared.Solved.{Solved}
use Rattle.answer.specs.Refusals.{Causes, First, NoCause}
use Rattle.collector.specs.Answers.{list_limit, packet_of, TakeAnswer, kept, DrainAnswer, SolveAnswer, solve_causes}

pub data Cell (S : Type 0) : Type 0 where
  shut : Cell S
  holds : List (Packet S) → Cell S

pub data Call (S : Type 0) : Type 0 where
  opened : (b : ℕ) → Result (Unit {0}) Refusal → Call S
  took : (b x y : ℕ) → Result Taken Refusal → Call S
  drained : (b : ℕ) (feed rest : List (Packet S)) → Result Drained Refusal → Call S
  solved : (b : ℕ) (output written : List S) → Result Solved Refusal → Call S
  tallied : (b : ℕ) → Result Tally Refusal → Call S
  closed : (b : ℕ) → Result (Unit {0}) Refusal → Call S

abbrev pub Machine : Type 0 → Type 0
Machine S = ℕ → Cell S

module _ {S : Type 0} where
  abbrev pub Put : Machine S → ℕ → Cell S → Machine S → Type 0
  Put m b cell n = (n b ≡ cell) × ((c : ℕ) → c ≢ b → n c ≡ m c)

  abbrev pub Still : Machine S → Machine S → Type 0
  Still m n = (c : ℕ) → n c ≡ m c

  -- number b is open with the packets ps
  abbrev pub Holds : Machine S → ℕ → List (Packet S) → Type 0
  Holds m b ps = m b ≡ holds ps

  abbrev pub open_refusals : Machine S → ℕ → Causes
  open_refusals m b = (8 ≤ b, BlockNumber) ∷ ((ps : List (Packet S)) × Holds m b ps, AlreadyOpen) ∷ []

  abbrev pub shut_refusals : Machine S → ℕ → Causes
  shut_refusals m b = (8 ≤ b, BlockNumber) ∷ (m b ≡ shut, NotOpen) ∷ []

  -- n packets more pass the limit
  abbrev pub Overfull : Machine S → ℕ → ℕ → Type 0
  Overfull m b n = (ps : List (Packet S)) × Holds m b ps × (list_limit < length ps + n)

module _ {K S : Type 0} (A : Alphabet K S) (k ℓ : ℕ) where
  abbrev pub space : List (Packet S) → Packet S → Type 0
  space ps = Span (packet_rows A) ps

  abbrev pub take_refusals : Machine S → (b x y : ℕ) → Causes
  take_refusals m b x y = shut_refusals m b ++ ((A.q ^ ℓ ≤ x, Header) ∷ (A.q ^ A.m ≤ y, Payload) ∷ (Overfull m b 1, ListFull) ∷ [])

  abbrev pub drain_refusals : Machine S → ℕ → List (Packet S) → Causes
  drain_refusals m b feed = shut_refusals m b ++ ((Overfull m b (length feed), ListFull) ∷ [])

  abbrev pub Plain : Machine S → Call S → Machine S → Type 0
  Plain m (opened b (Ok a)) n = NoCause (open_refusals m b) × Put m b (holds []) n
  Plain m (opened b (Err e)) n = First (open_refusals m b) e × Still m n
  Plain m (took b x y (Ok a)) n =
      NoCause (take_refusals m b x y)
      × ((ps : List (Packet S)) × Holds m b ps × TakeAnswer A (space ps) (packet_of A x y) a × Put m b (holds (ps ++ packet_of A x y ∷ [])) n)
  Plain m (took b x y (Err e)) n = First (take_refusals m b x y) e × Still m n
  Plain m (drained b feed rest (Ok a)) n =
      NoCause (drain_refusals m b feed) × (rest ≡ []) × DrainAnswer A ℓ feed a
      × ((ps : List (Packet S)) × Holds m b ps × Put m b (holds (ps ++ kept A ℓ feed)) n)
  Plain m (drained b feed rest (Err e)) n = First (drain_refusals m b feed) e × (rest ≡ feed) × Still m n
  Plain m (solved b output written (Ok a)) n =
      NoCause (shut_refusals m b)
      × ((ps : List (Packet S)) × (r : ℕ) × Holds m b ps × IsDim (packet_rows A) (space ps) r
      × NoCause (solve_causes A k ℓ (space ps) r (length output)) × SolveAnswer A k ℓ (space ps) r output written a)
      × Still m n
  Plain m (solved b output written (Err e)) n =
      (First (shut_refusals m b) e ⊎ ((ps : List (Packet S)) × (r : ℕ) × NoCause (shut_refusals m b) × Holds m b ps × IsDim (packet_rows A) (space ps) r × First (solve_causes A k ℓ (space ps) r (length output)) e))
      × (written ≡ output) × Still m n
  Plain m (tallied b (Ok a)) n =
      NoCause (shut_refusals m b) × ((ps : List (Packet S)) × Holds m b ps × (a.taken ≡ length ps) × IsDim (packet_rows A) (space ps) a.dimension) × Still m n
  Plain m (tallied b (Err e)) n = First (shut_refusals m b) e × Still m n
  Plain m (closed b (Ok a)) n = NoCause (shut_refusals m b) × Put m b shut n
  Plain m (closed b (Err e)) n = First (shut_refusals m b) e × Still m n
