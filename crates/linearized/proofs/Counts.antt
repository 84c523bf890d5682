-- The length counted to the last non-zero coefficient.
use Rattle.std.proofs.Common.{◌≡◌, ℕ, zero as 0ₙ, suc, ◌+◌, ◌<◌, ◌≤◌, ◌↔◌, List, [], ◌∷◌, length, refl, arith}
use native.Mathlib.Decide.{dec_le}
use lib.ListN.{get_or-eq_default}
use Rattle.linear.specs.Field.{Field}
use Rattle.linearized.specs.Polynomials.{at, counted, counted_after}

module _ {S : Type 0} (G : Field S) where
  open G use {zero}

  past_after : (f : List S) (n : ℕ) {a : S} (zero? : Dec (a ≡ zero)) → ((i : ℕ) → n ≤ i → at G f i ≡ zero) →
      (i : ℕ) → counted_after G n zero? ≤ i → at G (a ∷ f) i ≡ zero
  past_after f 0ₙ (yes z) h 0ₙ l = z
  past_after f 0ₙ (yes z) h (suc i) l = h i (omega arith)
  past_after f 0ₙ (no z) h 0ₙ l = absurd (omega arith)
  past_after f 0ₙ (no z) h (suc i) l = h i (omega arith)
  past_after f (suc n) d h 0ₙ l = absurd (omega arith)
  past_after f (suc n) d h (suc i) l = h i (omega arith)

  -- from the count on every coefficient is zero
  pub counted_past : (f : List S) (i : ℕ) → counted G f ≤ i → at G f i ≡ zero
  counted_past [] i l = refl
  counted_past (a ∷ f) i l = past_after f (counted G f) (G.same? a zero) (counted_past f) i l

  top_after : (f : List S) (n : ℕ) {a : S} (zero? : Dec (a ≡ zero)) → ((e : ℕ) → n ≡ e + 1 → ¬ (at G f e ≡ zero)) →
      (e : ℕ) → counted_after G n zero? ≡ e + 1 → ¬ (at G (a ∷ f) e ≡ zero)
  top_after f 0ₙ (yes z) h e l = absurd (omega arith)
  top_after f 0ₙ (no z) h 0ₙ l = z
  top_after f 0ₙ (no z) h (suc e) l = absurd (omega arith)
  top_after f (suc n) d h 0ₙ l = absurd (omega arith)
  top_after f (suc n) d h (suc e) l = h e (omega arith)

  -- the coefficient at the end of the count is not
  pub counted_top : (f : List S) (e : ℕ) → counted G f ≡ e + 1 → ¬ (at G f e ≡ zero)
  counted_top [] e l = absurd (omega arith)
  counted_top (a ∷ f) e l = top_after f (counted G f) (G.same? a zero) (counted_top f) e l

  pub counted_least : (f : List S) (d : ℕ) → ((i : ℕ) → d ≤ i → at G f i ≡ zero) → counted G f ≤ d
  counted_least f d h = go (counted G f) refl
    where
      go : (n : ℕ) → counted G f ≡ n → counted G f ≤ d
      go 0ₙ e = omega arith
      go (suc n) e = elim (dec_le (suc n) d) [ yes l ↦ omega arith | no l ↦ absurd (counted_top f n (omega arith) (h n (omega arith))) ]

  pub counted_bound : (f : List S) (d : ℕ) → (counted G f ≤ d) ↔ ((i : ℕ) → d ≤ i → at G f i ≡ zero)
  counted_bound f d = (λ l i k. counted_past f i (omega arith), counted_least f d)

  pub counted_length : (f : List S) → counted G f ≤ length f
  counted_length f = counted_least f (length f) (λ i l. get_or-eq_default f zero l)

  pub counted_some : (f : List S) (n : ℕ) → ¬ (at G f n ≡ zero) → n < counted G f
  counted_some f n h = elim (dec_le (counted G f) n) [ yes l ↦ absurd (h (counted_past f n l)) | no l ↦ omega arith ]
