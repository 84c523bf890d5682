-- What came of each number of a log, by the plain machine.
--   Outcome         drain's answer, the places that solve was given and what it wrote there, and solve's answer
--   rest_of         what drain leaves of a feed
--   number_calls    the calls on a number: open, drain of its packets, solve
--   calls_from      the calls on number b and those after it
--   NumbersRun      the plain machine takes them for all eight numbers of a log, solve given k places
--   taken, passed   how many packets of a number were kept in its list, and how many were not
--   Standing        a session stands for a machine in which number b is shut
--   NumberDone      the calls on one number are done, on a session that stands for the machine m
-- Assumes nothing.
use Rattle.std.specs.Prelude.{◌≡◌, ℕ, ◌+◌, ◌≢◌, List, [], ◌∷◌, ◌++◌, length, Ok, Err, Result}
use Rattle.linear.specs.Span.{Each}
use Rattle.field.specs.Alphabet.{Alphabet}
use Rattle.packet.specs.declared.Packet.{Packet}
use Rattle.answer.specs.declared.refusal.Refusal.{Refusal}
use Rattle.answer.specs.declared.Drained.{Drained}
use Rattle.answer.specs.declared.Solved.{Solved}
use Rattle.collector.specs.Machine.{shut, Call, opened, drained, solved, Machine}
use Rattle.collector.specs.Runs.{State, Represents}
use Rattle.collector.specs.Laws.{PlainRun}

pub record Outcome (S : Type 0) : Type 0 where
  pub drain : Result Drained Refusal
  pub output : List S
  pub written : List S
  pub solve : Result Solved Refusal

abbrev pub taken : Result Drained Refusal → ℕ
taken (Ok d) = d.kept
taken (Err e) = 0

-- of so many packets
abbrev pub passed : ℕ → Result Drained Refusal → ℕ
passed many (Ok d) = d.passed
passed many (Err e) = many

module _ {S : Type 0} where
  abbrev pub rest_of : List (Packet S) → Result Drained Refusal → List (Packet S)
  rest_of feed (Ok d) = []
  rest_of feed (Err e) = feed

  abbrev pub number_calls : ℕ → List (Packet S) → Outcome S → List (Call S)
  number_calls b feed o = opened b (Ok tt) ∷ drained b feed (rest_of feed o.drain) o.drain ∷ solved b o.output o.written o.solve ∷ []

  -- `feeds` are the packets of each number
  abbrev pub calls_from : (ℕ → List (Packet S)) → ℕ → List (Outcome S) → List (Call S)
  calls_from feeds b [] = []
  calls_from feeds b (o ∷ os) = number_calls b (feeds b) o ++ calls_from feeds (b + 1) os

  abbrev pub total_taken : List (Outcome S) → ℕ
  total_taken [] = 0
  total_taken (o ∷ os) = taken o.drain + total_taken os

  abbrev pub total_passed : (ℕ → List (Packet S)) → ℕ → List (Outcome S) → ℕ
  total_passed feeds b [] = 0
  total_passed feeds b (o ∷ os) = passed (length (feeds b)) o.drain + total_passed feeds (b + 1) os

  pub record NumbersRun {K : Type 0} (A : Alphabet K S) (k ℓ : ℕ) (feeds : ℕ → List (Packet S)) (os : List (Outcome S)) : Type 0 where
    pub eight : length os ≡ 8
    pub places : Each (λ o. length o.output ≡ k) os
    pub machine : Machine S
    pub runs : PlainRun A k ℓ (λ _. shut) (calls_from feeds 0 os) machine

  pub record Standing {K : Type 0} (A : Alphabet K S) (b : ℕ) (s : State S) : Type 0 where
    pub k : ℕ
    pub ℓ : ℕ
    pub later : List (Packet S)
    pub machine : Machine S
    pub represents : Represents A k ℓ later s machine
    pub is_shut : machine b ≡ shut

  pub record NumberDone {K : Type 0} (A : Alphabet K S) (k ℓ : ℕ) (later : List (Packet S)) (m : Machine S) (b : ℕ) (feed : List (Packet S)) (o : Outcome S) (t : State S) : Type 0 where
    pub next : Machine S
    pub runs : PlainRun A k ℓ m (number_calls b feed o) next
    pub represents : Represents A k ℓ later t next
    pub others : (c : ℕ) → c ≢ b → next c ≡ m c
