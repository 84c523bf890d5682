-- Coefficients of compositions B(f).
use Rattle.std.proofs.Common.{◌≡◌, ℕ, zero as 0ₙ, suc, ◌+◌, ◌-◌, ◌<◌, ◌⊎◌, List, sym, ap, ◌∙◌, ap₂, inl, inr, arith}
use native.Mathlib.Decide.{ℕ_discrete}
use Rattle.linear.specs.Field.{Field, iterate}
use Rattle.linear.proofs.Fields.{zero-add, mul-zero, zero-mul}
use Rattle.field.specs.Alphabet.{Alphabet, Lawful}
use Rattle.linearized.specs.Polynomials.{total, at, composed}
use Rattle.linearized.specs.Coefficients.{Same, IsSum}
use Rattle.linearized.proofs.Algebra.{add_swap}
use Rattle.linearized.proofs.Frobenius.{iterate_frobenius_zero, iterate_frobenius_add}
use Rattle.linearized.proofs.Polynomials.{total_same, total_zero}

module _ {S : Type 0} (G : Field S) where
  open G use {zero, add, mul}

  pub total_add : (g h : ℕ → S) (n : ℕ) → total G (λ i. add (g i) (h i)) n ≡ add (total G g n) (total G h n)
  total_add g h 0ₙ = sym (G.add-zero zero)
  total_add g h (suc n) = ap (λ x. add x (add (g n) (h n))) (total_add g h n) ∙ add_swap G _ _ _ _

  -- a sum with one term that counts
  pub total_single : (h : ℕ → S) (n k : ℕ) → k < n → ((i : ℕ) → i < n → ¬ (i ≡ k) → h i ≡ zero) → total G h n ≡ h k
  total_single h 0ₙ k l e = absurd (omega arith)
  total_single h (suc n) k l e = elim (ℕ_discrete k n) [
    | yes k-is ↦ ap (λ x. add x (h n)) (total_zero G h n (λ i j. e i (omega arith) (omega arith))) ∙ zero-add G (h n) ∙ ap h (sym k-is)
    | no k-not ↦ ap₂ add (total_single h n k (omega arith) (λ i j. e i (omega arith))) (e n (omega arith) (omega arith)) ∙ G.add-zero (h k)
  ]

module _ {K S : Type 0} {A : Alphabet K S} (laws : Lawful A) where
  open A use {symbols as G, frobenius}
  open G use {zero, add, mul}

  term_zero : (b c : S) (i : ℕ) → (b ≡ zero) ⊎ (c ≡ zero) → mul b (iterate frobenius i c) ≡ zero
  term_zero b c i (inl z) = ap (λ x. mul x (iterate frobenius i c)) z ∙ zero-mul G _
  term_zero b c i (inr z) = ap (λ x. mul b (iterate frobenius i x)) z ∙ ap (mul b) (iterate_frobenius_zero laws i) ∙ mul-zero G b

  -- a coefficient is zero where in each of its terms one of the two is
  pub composed_zero : (B f : List S) (n : ℕ) → ((i j : ℕ) → i + j ≡ n → (at G B i ≡ zero) ⊎ (at G f j ≡ zero)) → composed A B f n ≡ zero
  composed_zero B f n h = total_zero G _ (suc n) (λ i l. term_zero _ _ i (h i (n - i) (omega arith)))

  -- a coefficient with one term that counts
  pub composed_single : (B f : List S) (p e : ℕ) → ((i j : ℕ) → i + j ≡ p + e → ¬ (i ≡ e) → (at G B i ≡ zero) ⊎ (at G f j ≡ zero)) →
      composed A B f (p + e) ≡ mul (at G B e) (iterate frobenius e (at G f p))
  composed_single B f p e h =
      let place : (p + e) - e ≡ p = omega arith in
      total_single G _ (suc (p + e)) e (omega arith) (λ i l ne. term_zero _ _ i (h i ((p + e) - i) (omega arith) ne))
      ∙ ap (λ j. mul (at G B e) (iterate frobenius e (at G f j))) place

  pub composed_sum : (B f g h : List S) → IsSum G f g h → (n : ℕ) → composed A B h n ≡ add (composed A B f n) (composed A B g n)
  composed_sum B f g h e n =
      total_same G _ _ (λ i. ap (λ x. mul (at G B i) (iterate frobenius i x)) (e (n - i)) ∙ ap (mul (at G B i)) (iterate_frobenius_add laws i _ _) ∙ G.mul_add _ _ _) (suc n)
      ∙ total_add G _ _ (suc n)

  pub composed_same : (B f g : List S) → Same G f g → (n : ℕ) → composed A B f n ≡ composed A B g n
  composed_same B f g h n = total_same G _ _ (λ i. ap (λ x. mul (at G B i) (iterate frobenius i x)) (h (n - i))) (suc n)
