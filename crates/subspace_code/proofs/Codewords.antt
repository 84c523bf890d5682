-- The packets that are sent lie in the codeword space.
use Rattle.std.proofs.Common.{ℕ, zero as 0ₙ, suc, ◌+◌, ◌^◌, ◌<◌, ◌≤◌, List, map, sym, refl, subst, arith}
use Rattle.std.specs.List.{range_with_len}
use Rattle.linear.specs.Span.{Each}
use Rattle.field.specs.Alphabet.{Alphabet, Lawful}
use Rattle.field.proofs.Alphabets.{basis_in, power_rises}
use Rattle.linearized.specs.Code.{Codeword, packet_at, basis, packets}

each_counted : {X : Type 0} (P : X → Type 0) (f : ℕ → X) (a n : ℕ) → ((i : ℕ) → a ≤ i → i < a + n → P (f i)) → Each P (map f (range_with_len a n))
each_counted P f a 0ₙ h = tt
each_counted P f a (suc n) h = (h a (omega arith) (omega arith), each_counted P f (a + 1) n (λ i from below. h i (omega arith) (omega arith)))

pub packets_codewords : {K S : Type 0} (A : Alphabet K S) → Lawful A → (ℓ : ℕ) (u : List S) → ℓ ≤ A.m → Each (Codeword A ℓ u) (packets A ℓ u)
packets_codewords A laws ℓ u h =
    each_counted (Codeword A ℓ u) (λ i. packet_at A u (basis A i)) 0 ℓ
    (λ i from below.
    let small : A.q ^ i < A.q ^ ℓ = power_rises laws i ℓ (omega arith) in
    (subst (λ n. n < A.q ^ ℓ) (sym (laws.codes.code_element (A.q ^ i) (basis_in laws i (omega arith)))) small, refl))
