-- Equal spaces have equal sums, intersections, distances, and give the same answers.
use Rattle.std.proofs.Common.{ℕ, ◌↔◌, List, [], ◌∷◌}
use Rattle.linear.specs.Rows.{Rows}
use Rattle.linear.specs.Span.{Span, Sum, Meet}
use Rattle.linear.proofs.Dims.{dim_same}
use Rattle.field.specs.Alphabet.{Alphabet}
use Rattle.packet.specs.declared.Packet.{Packet}
use Rattle.packet.specs.Packets.{packet_rows}
use Rattle.linearized.specs.Code.{Codeword}
use Rattle.linearized.specs.Distance.{Distance, Within}
use Rattle.answer.specs.declared.Taken.{Taken}
use Rattle.answer.specs.declared.Solved.{Solved}
use Rattle.collector.specs.Answers.{TakeAnswer, SolveAnswer, solve_causes}
use Rattle.answer.proofs.Causes.{Alike, alike_none, alike_more, same_cause}

module _ {K V : Type 0} (R : Rows K V) {U W : V → Type 0} (e : (v : V) → U v ↔ W v) (X : V → Type 0) where
  pub sum_same : (v : V) → Sum R U X v ↔ Sum R W X v
  sum_same v = (λ (u, x, su, sx, p). (u, x, (e u).0 su, sx, p), λ (u, x, su, sx, p). (u, x, (e u).1 su, sx, p))

  pub meet_same : (v : V) → Meet R U X v ↔ Meet R W X v
  meet_same v = (λ (u, x). ((e v).0 u, x), λ (u, x). ((e v).1 u, x))

  pub distance_same : {d : ℕ} → Distance R U X d → Distance R W X d
  distance_same g = record { sum = g.sum; is_sum = dim_same R sum_same g.is_sum; shared = g.shared; is_shared = dim_same R meet_same g.is_shared; apart = g.apart }

module _ {K S : Type 0} (A : Alphabet K S) {U W : Packet S → Type 0} (e : (p : Packet S) → U p ↔ W p) where
  pub within_same : {k ℓ : ℕ} {u : List S} → Within A k ℓ U u → Within A k ℓ W u
  within_same {k} {ℓ} {u} w = record { long = w.long; distance = w.distance; apart = distance_same (packet_rows A) e (Codeword A ℓ u) w.apart; close = w.close }

  pub take_answer_same : {p : Packet S} {answer : Taken} → TakeAnswer A U p answer → TakeAnswer A W p answer
  take_answer_same {p} a = record {
    before = a.before;
    is_before = dim_same (packet_rows A) e a.is_before;
    is_after = dim_same (packet_rows A) (sum_same (packet_rows A) e (Span (packet_rows A) (p ∷ []))) a.is_after;
    rose = a.rose;
  }

  pub solve_answer_same : {k ℓ r : ℕ} {output written : List S} {answer : Solved} → SolveAnswer A k ℓ U r output written answer → SolveAnswer A k ℓ W r output written answer
  solve_answer_same {ℓ = ℓ} a = record {
    message = a.message;
    within = within_same a.within;
    is_written = a.is_written;
    shared = a.shared;
    is_shared = dim_same (packet_rows A) (meet_same (packet_rows A) e (Codeword A ℓ a.message)) a.is_shared;
    is_dimension = a.is_dimension;
    is_lost = a.is_lost;
    is_foreign = a.is_foreign;
    is_faults = a.is_faults;
  }

pub solve_causes_alike : {K S : Type 0} (A : Alphabet K S) {U W : Packet S → Type 0} → ((p : Packet S) → U p ↔ W p) → (k ℓ r places : ℕ) →
    Alike (solve_causes A k ℓ U r places) (solve_causes A k ℓ W r places)
solve_causes_alike A e k ℓ r places =
    alike_more same_cause (alike_more same_cause (alike_more same_cause
    (alike_more (λ f u w. f u (within_same A (λ p. ((e p).1, (e p).0)) w), λ f u w. f u (within_same A e w)) alike_none)))
