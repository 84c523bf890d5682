-- Causes that are tests: what an answer tells of them.
use Rattle.std.proofs.Common.{◌≡◌, ℕ, Bool, true, false, List, ◌∷◌, Some, None, Ok, Err, Option, refl, arith}
use Rattle.answer.specs.declared.refusal.Refusal.{Refusal}
use Rattle.answer.specs.Refusals.{first_cause, answered}

pub answered_ok : {A : Type 0} (refusal : Option Refusal) (a b : A) → answered refusal a ≡ Ok b → refusal ≡ None
answered_ok None a b e = refl
answered_ok (Some r) a b e = let z : ◌≡◌ {A = ℕ} 0 1 = cc in absurd (let y : ⊥ = omega arith in y)

-- where no cause applies, the first does not, nor does a later one
pub no_cause : (b : Bool) (e : Refusal) (causes : List (Bool × Refusal)) → first_cause ((b, e) ∷ causes) ≡ None → (b ≡ false) × (first_cause causes ≡ None)
no_cause true e causes h = let z : ◌≡◌ {A = ℕ} 0 1 = cc in absurd (let y : ⊥ = omega arith in y)
no_cause false e causes h = (refl, h)
