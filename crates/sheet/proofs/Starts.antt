-- A session starts where k and ℓ are allowed and there are rows enough.
use Rattle.std.proofs.Common.{◌≡◌, ℕ, ◌+◌, ◌*◌, ◌≤◌, List, length, Ok, Err, Result, IsOk, refl, inl, inr, arith}
use Rattle.field.specs.Alphabet.{Alphabet}
use Rattle.packet.specs.declared.Packet.{Packet}
use Rattle.answer.specs.declared.refusal.Refusal.{Refusal}
use Rattle.answer.specs.Refusals.{First}
use Rattle.collector.specs.Session.{Allowed, start_refusals}

-- an answer that is no refusal
pub unrefused_is_ok : {X : Type 0} (r : Result X Refusal) → ((e : Refusal) → r ≡ Err e → ⊥) → IsOk r
unrefused_is_ok (Ok x) h = refl
unrefused_is_ok (Err e) h = absurd (h e refl)

pub start_not_refused : {K S : Type 0} (A : Alphabet K S) (k ℓ : ℕ) (rows : List (Packet S)) (e : Refusal) → Allowed k ℓ A.m → 8 * (ℓ + A.m) ≤ length rows → ¬ First (start_refusals A k ℓ rows) e
start_not_refused A k ℓ rows e allowed room (inl (n, is)) = n allowed
start_not_refused A k ℓ rows e allowed room (inr (n, inl (short, is))) = omega arith
start_not_refused A k ℓ rows e allowed room (inr (n, inr (o, last))) = last
