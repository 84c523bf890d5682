-- What the law over runs comes to, in the words of spaces and distance.
--   PlainRun       the plain machine takes a list of calls
--   left           the state that a run leaves
--   Orderless      two runs that leave a number open with the same packets in another order, or with others that span the same,
--                  leave the same rows for it, whatever the other numbers were sent
--   SolveLaws      solve gives a message exactly when one is within ℓ − k, and it is the only one
--   Exact          the plain machine's solve, given k places, keeps these laws
-- Assumes nothing.
use Rattle.std.specs.Prelude.{◌≡◌, ℕ, ◌<◌, ◌≤◌, ◌⊎◌, ◌↔◌, List, [], ◌∷◌, ◌++◌, length, drop, Ok, Result}
use Rattle.std.specs.List.Sorted.{IsPermutation}
use Rattle.linear.specs.Span.{Span, SameSpan, IsDim, Meet}
use Rattle.field.specs.Alphabet.{Alphabet}
use Rattle.packet.specs.declared.Packet.{Packet}
use Rattle.packet.specs.Packets.{packet_rows}
use Rattle.linearized.specs.Code.{Codeword, packets}
use Rattle.linearized.specs.Distance.{Within, lost, foreign, faults}
use Rattle.answer.specs.declared.refusal.Refusal.{Refusal}
use Rattle.answer.specs.declared.Solved.{Solved}
use Rattle.collector.specs.Session.{rows_of}
use Rattle.collector.specs.Machine.{shut, Call, solved, Machine, Still, Holds, Plain}
use Rattle.collector.specs.Runs.{State, Run}

module _ {K S : Type 0} (A : Alphabet K S) where
  abbrev pub PlainRun : (k ℓ : ℕ) → Machine S → List (Call S) → Machine S → Type 0
  PlainRun k ℓ m [] n = Still m n
  PlainRun k ℓ m (call ∷ calls) n = (next : Machine S) × Plain A k ℓ m call next × PlainRun k ℓ next calls n

  abbrev pub left : (s : State S) (calls : List (Call S)) → Run A s calls → State S
  left s [] run = s
  left s (call ∷ calls) run = left run.0 calls run.2

  abbrev pub number_rows : State S → ℕ → List (Packet S)
  number_rows s b = rows_of A s.session s.rows b

  abbrev pub Orderless : State S → Type 0
  Orderless s = (calls others : List (Call S)) (run : Run A s calls) (other : Run A s others) (m n : Machine S)
      → PlainRun s.session.k s.session.l (λ _. shut) calls m → PlainRun s.session.k s.session.l (λ _. shut) others n
      → (b : ℕ) (ps qs : List (Packet S)) → b < 8 → Holds m b ps → Holds n b qs → IsPermutation ps qs ⊎ SameSpan (packet_rows A) ps qs
      → number_rows (left s calls run) b ≡ number_rows (left s others other) b

  -- solve on an open number with the packets ps, given k places
  pub record SolveLaws (k ℓ : ℕ) (ps : List (Packet S)) (output written : List S) (answer : Result Solved Refusal) : Type 0 where
    pub exact : ((a : Solved) × (answer ≡ Ok a)) ↔ ((u : List S) × Within A k ℓ (Span (packet_rows A) ps) u)
    pub only : (u w : List S) → Within A k ℓ (Span (packet_rows A) ps) u → Within A k ℓ (Span (packet_rows A) ps) w → u ≡ w
    pub wrote : (u : List S) → Within A k ℓ (Span (packet_rows A) ps) u → written ≡ u ++ drop k output
    pub counts : (a : Solved) (u : List S) (r shared : ℕ) → answer ≡ Ok a → Within A k ℓ (Span (packet_rows A) ps) u → IsDim (packet_rows A) (Span (packet_rows A) ps) r
        → IsDim (packet_rows A) (Meet (packet_rows A) (Span (packet_rows A) ps) (Codeword A ℓ u)) shared
        → a ≡ record { dimension = r; lost = lost ℓ shared; foreign = foreign r shared; faults = faults ℓ r shared }
    -- from packets that span a block's codeword space the block comes back
    pub back : (u : List S) → length u ≡ k → SameSpan (packet_rows A) ps (packets A ℓ u)
        → (answer ≡ Ok (record { dimension = ℓ; lost = 0; foreign = 0; faults = 0 })) × (written ≡ u ++ drop k output)

  abbrev pub Exact : (k ℓ : ℕ) → Type 0
  Exact k ℓ = (m n : Machine S) (b : ℕ) (ps : List (Packet S)) (output written : List S) (answer : Result Solved Refusal)
      → Plain A k ℓ m (solved b output written answer) n → b < 8 → Holds m b ps → k ≤ length output → SolveLaws k ℓ ps output written answer
