-- The calls on a number, one after another, by the plain machine.
use Rattle.std.proofs.Common.{◌≡◌, ℕ, ◌+◌, ◌<◌, ◌≢◌, List, length, Ok, Err, Result, sym, refl, ◌∙◌, subst, inl, inr, arith}
use Rattle.std.specs.Result.{result_unwrap_or}
use Rattle.field.specs.Alphabet.{Alphabet, Lawful}
use Rattle.packet.specs.declared.Packet.{Packet}
use Rattle.answer.specs.declared.refusal.Refusal.{Refusal}
use Rattle.answer.specs.declared.Drained.{Drained}
use Rattle.answer.specs.declared.Solved.{Solved}
use Rattle.collector.specs.Machine.{shut, opened, drained, solved, Machine, Plain}
use Rattle.collector.specs.Runs.{State, Step, Represents}
use Rattle.collector.proofs.Runs.{step_follows, cell_apart}
use Rattle.sheet.specs.Outcomes.{taken, passed, rest_of, NumberDone}

-- what is counted of a drain's answer, and of so many packets where it was refused
pub counted_taken : (many : ℕ) (answer : Result Drained Refusal) → (result_unwrap_or answer (record { kept = 0; passed = many })).kept ≡ taken answer
counted_taken many (Ok d) = refl
counted_taken many (Err e) = refl

pub counted_passed : (many : ℕ) (answer : Result Drained Refusal) → (result_unwrap_or answer (record { kept = 0; passed = many })).passed ≡ passed many answer
counted_passed many (Ok d) = refl
counted_passed many (Err e) = refl

-- the packets of a feed are kept or passed over
module _ {K S : Type 0} (A : Alphabet K S) where
  pub all_counted : (s t : State S) (b : ℕ) (feed rest : List (Packet S)) (answer : Result Drained Refusal) → Step A s (drained b feed rest answer) t
      → taken answer + passed (length feed) answer ≡ length feed
  all_counted s t b feed rest (Ok d) (none, draining) = draining.gives.all
  all_counted s t b feed rest (Err e) step = omega arith

  -- what drain leaves of a feed
  drain_rest : (s t : State S) (b : ℕ) (feed rest : List (Packet S)) (answer : Result Drained Refusal) → Step A s (drained b feed rest answer) t → rest ≡ rest_of feed answer
  drain_rest s t b feed rest (Ok d) (none, draining) = draining.emptied
  drain_rest s t b feed rest (Err e) (f, left, same) = left

module _ {K S : Type 0} (A : Alphabet K S) (k ℓ : ℕ) (m n : Machine S) (b : ℕ) where
  not_refused : (e : Refusal) → Plain A k ℓ m (opened b (Err e)) n → b < 8 → m b ≡ shut → ⊥
  not_refused e (inl (high, q), still) h is = omega arith
  not_refused e (inr (o, inl ((ps, at), q)), still) h is = cell_apart (sym at ∙ is)
  not_refused e (inr (o, inr (p, f)), still) h is = f

  drain_others : (feed rest : List (Packet S)) (answer : Result Drained Refusal) → Plain A k ℓ m (drained b feed rest answer) n → (c : ℕ) → c ≢ b → n c ≡ m c
  drain_others feed rest (Ok d) (none, empty, gives, (ps, at, put)) c ne = put.1 c ne
  drain_others feed rest (Err e) (f, left, still) c ne = still c

  solve_others : (output written : List S) (answer : Result Solved Refusal) → Plain A k ℓ m (solved b output written answer) n → (c : ℕ) → n c ≡ m c
  solve_others output written (Ok a) (none, gives, still) = still
  solve_others output written (Err e) (f, left, still) = still

module _ {K S : Type 0} {A : Alphabet K S} (laws : Lawful A) (k ℓ : ℕ) (later : List (Packet S)) where
  -- a shut number can be opened
  pub open_not_refused : (s t : State S) (m : Machine S) (b : ℕ) (e : Refusal) → Represents A k ℓ later s m → b < 8 → m b ≡ shut → ¬ Step A s (opened b (Err e)) t
  open_not_refused s t m b e r h is step =
      let (n, plain, represents) = step_follows A laws k ℓ later s t m (opened b (Err e)) r step in not_refused A k ℓ m n b e plain h is

  -- open, drain and solve
  pub number_done : (s t u v : State S) (m : Machine S) (b : ℕ) (feed rest : List (Packet S)) (answer : Result Drained Refusal) (output written : List S) (found : Result Solved Refusal)
      → Represents A k ℓ later s m → Step A s (opened b (Ok tt)) t → Step A t (drained b feed rest answer) u → Step A u (solved b output written found) v
      → NumberDone A k ℓ later m b feed (record { drain = answer; output = output; written = written; solve = found }) v
  number_done s t u v m b feed rest answer output written found r opens drains solves =
      let left = drain_rest A t u b feed rest answer drains in
      let drains-rest = subst (λ (l : List (Packet S)). Step A t (drained b feed l answer) u) left drains in
      let (n, plain-n, rep-n) = step_follows A laws k ℓ later s t m (opened b (Ok tt)) r opens in
      let (o, plain-o, rep-o) = step_follows A laws k ℓ later t u n (drained b feed (rest_of feed answer) answer) rep-n drains-rest in
      let (p, plain-p, rep-p) = step_follows A laws k ℓ later u v o (solved b output written found) rep-o solves in
      record {
        next = p;
        runs = (n, plain-n, (o, plain-o, (p, plain-p, (λ c. refl))));
        represents = rep-p;
        others = λ c ne. solve_others A k ℓ o p b output written found plain-p c ∙ drain_others A k ℓ n o b feed (rest_of feed answer) answer plain-o c ne ∙ plain-n.1.1 c ne;
      }
