-- Polynomials by recursion on the list: sums, multiples, values and compositions, tied to their coefficients and plain sums.
use Rattle.std.proofs.Common.{◌≡◌, ℕ, zero as 0ₙ, suc, ◌-◌, ◌<◌, List, [], ◌∷◌, map, length, sym, refl, ap, ◌∙◌, ap₂, arith}
use Rattle.linear.specs.Field.{Field, iterate}
use Rattle.linear.proofs.Fields.{zero-add, mul-zero, zero-mul, neg_mul}
use Rattle.field.specs.Alphabet.{Alphabet, Lawful}
use Rattle.linearized.specs.Polynomials.{total, at, value, composed}
use Rattle.linearized.specs.Coefficients.{before}
use Rattle.linearized.proofs.Algebra.{neg_zero}
use Rattle.linearized.proofs.Frobenius.{iterate_inside, frobenius_zero}

module _ {S : Type 0} (G : Field S) where
  open G use {zero, add, neg, mul}

  abbrev pub sum : List S → List S → List S
  sum [] g = g
  sum (a ∷ f) [] = a ∷ f
  sum (a ∷ f) (b ∷ g) = add a b ∷ sum f g

  abbrev pub multiple : S → List S → List S
  multiple c f = map (mul c) f

  pub at_sum : (f g : List S) (n : ℕ) → at G (sum f g) n ≡ add (at G f n) (at G g n)
  at_sum [] g n = sym (zero-add G (at G g n))
  at_sum (a ∷ f) [] n = sym (G.add-zero _)
  at_sum (a ∷ f) (b ∷ g) 0ₙ = refl
  at_sum (a ∷ f) (b ∷ g) (suc n) = at_sum f g n

  -- coefficients under a map that keeps zero
  pub at_map : (h : S → S) → h zero ≡ zero → (f : List S) (n : ℕ) → at G (map h f) n ≡ h (at G f n)
  at_map h z [] n = sym z
  at_map h z (a ∷ f) 0ₙ = refl
  at_map h z (a ∷ f) (suc n) = at_map h z f n

  pub at_multiple : (c : S) (f : List S) (n : ℕ) → at G (multiple c f) n ≡ mul c (at G f n)
  at_multiple c = at_map (mul c) (mul-zero G c)

  pub at_negative : (f : List S) (n : ℕ) → at G (map neg f) n ≡ neg (at G f n)
  at_negative = at_map neg (neg_zero G)

  abbrev pub difference : List S → List S → List S
  difference f g = sum f (map neg g)

  pub at_difference : (f g : List S) (n : ℕ) → at G (difference f g) n ≡ add (at G f n) (neg (at G g n))
  at_difference f g n = at_sum f (map neg g) n ∙ ap (add (at G f n)) (at_negative g n)

  -- c f − d g
  abbrev pub combined : S → List S → S → List S → List S
  combined c f d g = sum (multiple c f) (multiple (neg d) g)

  pub at_combined : (c : S) (f : List S) (d : S) (g : List S) (n : ℕ) → at G (combined c f d g) n ≡ add (mul c (at G f n)) (neg (mul d (at G g n)))
  at_combined c f d g n = at_sum (multiple c f) (multiple (neg d) g) n ∙ ap₂ add (at_multiple c f n) (at_multiple (neg d) g n ∙ neg_mul G d _)

  -- the sum with its first term in front
  pub total_front : (h : ℕ → S) (n : ℕ) → total G h (suc n) ≡ add (h 0) (total G (λ i. h (suc i)) n)
  total_front h 0ₙ = G.add_comm zero (h 0)
  total_front h (suc n) = ap (λ x. add x (h (suc n))) (total_front h n) ∙ G.add_assoc (h 0) _ (h (suc n))

  pub total_same : (g h : ℕ → S) → ((i : ℕ) → g i ≡ h i) → (n : ℕ) → total G g n ≡ total G h n
  total_same g h e 0ₙ = refl
  total_same g h e (suc n) = ap₂ add (total_same g h e n) (e n)

  pub total_zero : (h : ℕ → S) (n : ℕ) → ((i : ℕ) → i < n → h i ≡ zero) → total G h n ≡ zero
  total_zero h 0ₙ e = refl
  total_zero h (suc n) e = ap₂ add (total_zero h n (λ i l. e i (omega arith))) (e n (omega arith)) ∙ G.add-zero zero

module _ {K S : Type 0} (A : Alphabet K S) where
  open A use {symbols as G, frobenius}
  open G use {zero, add, neg, mul}

  abbrev pub eval : List S → S → S
  eval [] x = zero
  eval (u ∷ f) x = add (mul u x) (eval f (frobenius x))

  -- raise(f) − a f
  abbrev pub raised : S → List S → List S
  raised a f = sum G (zero ∷ map frobenius f) (multiple G (neg a) f)

  abbrev pub compose : List S → List S → List S
  compose [] f = []
  compose (b ∷ B) f = sum G (multiple G b f) (zero ∷ compose B (map frobenius f))

  pub value_eval : (f : List S) (x : S) → value A f x ≡ eval f x
  value_eval [] x = refl
  value_eval (u ∷ f) x =
      total_front G _ (length f)
      ∙ ap (add (mul u x))
      (total_same G _ _ (λ i. ap (mul (at G f i)) (sym (iterate_inside frobenius i x))) (length f) ∙ value_eval f (frobenius x))

module _ {K S : Type 0} {A : Alphabet K S} (laws : Lawful A) where
  open A use {symbols as G, frobenius}
  open G use {zero, add, neg, mul}

  pub at_frobenius : (f : List S) (n : ℕ) → at G (map frobenius f) n ≡ frobenius (at G f n)
  at_frobenius = at_map G frobenius (frobenius_zero laws)

  pub at_raised : (a : S) (f : List S) (n : ℕ) → at G (raised A a f) n ≡ add (frobenius (before G f n)) (neg (mul a (at G f n)))
  at_raised a f n = at_sum G (zero ∷ map frobenius f) (multiple G (neg a) f) n ∙ ap₂ add (shifted n) (at_multiple G (neg a) f n ∙ neg_mul G a _)
    where
      shifted : (n : ℕ) → at G (zero ∷ map frobenius f) n ≡ frobenius (before G f n)
      shifted 0ₙ = sym (frobenius_zero laws)
      shifted (suc n) = at_frobenius f n

  pub compose_first : (b : S) (B f : List S) → at G (compose A (b ∷ B) f) 0 ≡ mul b (at G f 0)
  compose_first b B f = at_sum G (multiple G b f) (zero ∷ compose A B (map frobenius f)) 0 ∙ G.add-zero _ ∙ at_multiple G b f 0

  pub compose_later : (b : S) (B f : List S) (n : ℕ) →
      at G (compose A (b ∷ B) f) (suc n) ≡ add (mul b (at G f (suc n))) (at G (compose A B (map frobenius f)) n)
  compose_later b B f n =
      at_sum G (multiple G b f) (zero ∷ compose A B (map frobenius f)) (suc n)
      ∙ ap (λ z. add z (at G (compose A B (map frobenius f)) n)) (at_multiple G b f (suc n))

  pub composed_compose : (B f : List S) (n : ℕ) → composed A B f n ≡ at G (compose A B f) n
  composed_compose [] f n = total_zero G _ (suc n) (λ i l. zero-mul G _)
  composed_compose (b ∷ B) f 0ₙ = zero-add G _ ∙ sym (compose_first b B f)
  composed_compose (b ∷ B) f (suc n) =
      let first : suc n - 0 ≡ suc n = omega arith in
      total_front G _ (suc n)
      ∙ ap₂ add (ap (λ i. mul b (at G f i)) first)
      (total_same G _ _ (λ i.
      let less : suc n - suc i ≡ n - i = omega arith in
      ap (mul (at G B i)) (sym (iterate_inside frobenius i _) ∙ ap (iterate frobenius i) (ap (λ j. frobenius (at G f j)) less ∙ sym (at_frobenius f (n - i))))) (suc n)
      ∙ composed_compose B (map frobenius f) n)
      ∙ sym (compose_later b B f n)
