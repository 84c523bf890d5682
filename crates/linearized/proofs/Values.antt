-- Values of polynomials: additive, respecting scalars, and those of sums, multiples and compositions.
use Rattle.std.proofs.Common.{◌≡◌, ℕ, suc, List, [], ◌∷◌, map, sym, refl, ap, ◌∙◌, ap₂}
use Rattle.linear.proofs.Fields.{zero-add, add_mul, mul_left_comm, mul-zero, zero-mul, neg_mul, add_cancel}
use Rattle.field.specs.Alphabet.{Alphabet, Lawful}
use Rattle.linearized.specs.Polynomials.{at, value}
use Rattle.linearized.specs.Coefficients.{Same, Null, before, IsSum, IsMultiple, IsNegative, IsComposed}
use Rattle.linearized.proofs.Algebra.{add_swap, neg_one_mul}
use Rattle.linearized.proofs.Frobenius.{frobenius_mul, frobenius_zero, frobenius_embed}
use Rattle.linearized.proofs.Polynomials.{sum, multiple, difference, combined, raised, eval, compose, at_sum, at_negative, at_multiple, at_combined, at_raised, value_eval, composed_compose}

module _ {K S : Type 0} {A : Alphabet K S} (laws : Lawful A) where
  open A use {symbols as G, frobenius, embed}
  open G use {zero, one, add, neg, mul}

  pub eval_add : (f : List S) (x y : S) → eval A f (add x y) ≡ add (eval A f x) (eval A f y)
  eval_add [] x y = sym (G.add-zero zero)
  eval_add (a ∷ f) x y =
      ap₂ add (G.mul_add a x y) (ap (eval A f) (laws.extension.frobenius_add x y) ∙ eval_add f (frobenius x) (frobenius y)) ∙ add_swap G _ _ _ _

  pub eval_scalar : (f : List S) (c : K) (x : S) → eval A f (mul (embed c) x) ≡ mul (embed c) (eval A f x)
  eval_scalar [] c x = sym (mul-zero G (embed c))
  eval_scalar (a ∷ f) c x =
      let raised : frobenius (mul (embed c) x) ≡ mul (embed c) (frobenius x) = frobenius_mul laws (embed c) x ∙ ap (λ z. mul z (frobenius x)) (frobenius_embed laws c) in
      ap₂ add (mul_left_comm G a (embed c) x) (ap (eval A f) raised ∙ eval_scalar f c (frobenius x)) ∙ sym (G.mul_add (embed c) (mul a x) (eval A f (frobenius x)))

  pub eval_zero : (f : List S) → eval A f zero ≡ zero
  eval_zero f = add_cancel G (eval A f zero) (eval A f zero) (sym (eval_add f zero zero) ∙ ap (eval A f) (G.add-zero zero))

  pub eval_sum : (f g : List S) (x : S) → eval A (sum G f g) x ≡ add (eval A f x) (eval A g x)
  eval_sum [] g x = sym (zero-add G _)
  eval_sum (a ∷ f) [] x = sym (G.add-zero _)
  eval_sum (a ∷ f) (b ∷ g) x = ap₂ add (add_mul G a b x) (eval_sum f g (frobenius x)) ∙ add_swap G _ _ _ _

  pub eval_multiple : (c : S) (f : List S) (x : S) → eval A (multiple G c f) x ≡ mul c (eval A f x)
  eval_multiple c [] x = sym (mul-zero G c)
  eval_multiple c (a ∷ f) x = ap₂ add (G.mul_assoc c a x) (eval_multiple c f (frobenius x)) ∙ sym (G.mul_add c _ _)

  -- raised coefficients at a raised symbol
  pub eval_raised : (f : List S) (x : S) → eval A (map frobenius f) (frobenius x) ≡ frobenius (eval A f x)
  eval_raised [] x = sym (frobenius_zero laws)
  eval_raised (a ∷ f) x = ap₂ add (sym (frobenius_mul laws a x)) (eval_raised f (frobenius x)) ∙ sym (laws.extension.frobenius_add _ _)

  pub eval_shift : (f : List S) (x : S) → eval A (zero ∷ f) x ≡ eval A f (frobenius x)
  eval_shift f x = ap (λ z. add z (eval A f (frobenius x))) (zero-mul G x) ∙ zero-add G _

  pub eval_compose : (B f : List S) (x : S) → eval A (compose A B f) x ≡ eval A B (eval A f x)
  eval_compose [] f x = refl
  eval_compose (b ∷ B) f x =
      eval_sum (multiple G b f) (zero ∷ compose A B (map frobenius f)) x
      ∙ ap₂ add (eval_multiple b f x) (eval_shift (compose A B (map frobenius f)) x ∙ eval_compose B (map frobenius f) (frobenius x) ∙ ap (eval A B) (eval_raised f x))

  pub eval_null : (f : List S) → Null G f → (x : S) → eval A f x ≡ zero
  eval_null [] h x = refl
  eval_null (a ∷ f) h x = ap₂ add (ap (λ z. mul z x) (h 0) ∙ zero-mul G x) (eval_null f (λ n. h (suc n)) (frobenius x)) ∙ G.add-zero zero

  -- the value goes by the coefficients
  pub eval_same : (f g : List S) → Same G f g → (x : S) → eval A f x ≡ eval A g x
  eval_same [] g h x = sym (eval_null g (λ n. sym (h n)) x)
  eval_same (a ∷ f) [] h x = eval_null (a ∷ f) h x
  eval_same (a ∷ f) (b ∷ g) h x = ap₂ (λ s t. add (mul s x) t) (h 0) (eval_same f g (λ n. h (suc n)) (frobenius x))

  -- the same of `value`
  pub value_add : (f : List S) (x y : S) → value A f (add x y) ≡ add (value A f x) (value A f y)
  value_add f x y = value_eval A f (add x y) ∙ eval_add f x y ∙ ap₂ add (sym (value_eval A f x)) (sym (value_eval A f y))

  pub value_scalar : (f : List S) (c : K) (x : S) → value A f (mul (embed c) x) ≡ mul (embed c) (value A f x)
  value_scalar f c x = value_eval A f (mul (embed c) x) ∙ eval_scalar f c x ∙ ap (mul (embed c)) (sym (value_eval A f x))

  pub value_zero : (f : List S) → value A f zero ≡ zero
  value_zero f = value_eval A f zero ∙ eval_zero f

  pub value_same : (f g : List S) → Same G f g → (x : S) → value A f x ≡ value A g x
  value_same f g h x = value_eval A f x ∙ eval_same f g h x ∙ sym (value_eval A g x)

  pub value_sum : (f g h : List S) → IsSum G f g h → (x : S) → value A h x ≡ add (value A f x) (value A g x)
  value_sum f g h e x =
      value_eval A h x ∙ eval_same h (sum G f g) (λ n. e n ∙ sym (at_sum G f g n)) x ∙ eval_sum f g x ∙ ap₂ add (sym (value_eval A f x)) (sym (value_eval A g x))

  pub value_multiple : (c : S) (f h : List S) → IsMultiple G c f h → (x : S) → value A h x ≡ mul c (value A f x)
  value_multiple c f h e x =
      value_eval A h x ∙ eval_same h (multiple G c f) (λ n. e n ∙ sym (at_multiple G c f n)) x ∙ eval_multiple c f x ∙ ap (mul c) (sym (value_eval A f x))

  pub value_negative : (f h : List S) → IsNegative G f h → (x : S) → value A h x ≡ neg (value A f x)
  value_negative f h e x = value_multiple (neg one) f h (λ n. e n ∙ sym (neg_one_mul G _)) x ∙ neg_one_mul G _

  pub value_difference : (f g : List S) (x : S) → value A (difference G f g) x ≡ add (value A f x) (neg (value A g x))
  value_difference f g x = value_sum f (map neg g) (difference G f g) (at_sum G f (map neg g)) x ∙ ap (add _) (value_negative g (map neg g) (at_negative G g) x)

  pub value_composed : (B f h : List S) → IsComposed A B f h → (x : S) → value A h x ≡ value A B (value A f x)
  value_composed B f h e x =
      value_eval A h x ∙ eval_same h (compose A B f) (λ n. e n ∙ composed_compose laws B f n) x ∙ eval_compose B f x
      ∙ ap (eval A B) (sym (value_eval A f x)) ∙ sym (value_eval A B (value A f x))

  pub value_raised : (a : S) (f h : List S) → ((n : ℕ) → at G h n ≡ add (frobenius (before G f n)) (neg (mul a (at G f n)))) →
      (x : S) → value A h x ≡ add (frobenius (value A f x)) (neg (mul a (value A f x)))
  value_raised a f h e x =
      value_same h (raised A a f) (λ n. e n ∙ sym (at_raised laws a f n)) x
      ∙ value_sum (zero ∷ map frobenius f) (multiple G (neg a) f) (raised A a f) (at_sum G (zero ∷ map frobenius f) (multiple G (neg a) f)) x
      ∙ ap₂ add (value_eval A (zero ∷ map frobenius f) x ∙ eval_shift (map frobenius f) x ∙ eval_raised f x ∙ ap frobenius (sym (value_eval A f x)))
      (value_multiple (neg a) f (multiple G (neg a) f) (at_multiple G (neg a) f) x ∙ neg_mul G a _)

  pub value_combined : (c : S) (f : List S) (d : S) (g h : List S) → ((n : ℕ) → at G h n ≡ add (mul c (at G f n)) (neg (mul d (at G g n)))) →
      (x : S) → value A h x ≡ add (mul c (value A f x)) (neg (mul d (value A g x)))
  value_combined c f d g h e x =
      value_same h (combined G c f d g) (λ n. e n ∙ sym (at_combined G c f d g n)) x
      ∙ value_sum (multiple G c f) (multiple G (neg d) g) (combined G c f d g) (at_sum G (multiple G c f) (multiple G (neg d) g)) x
      ∙ ap₂ add (value_multiple c f (multiple G c f) (at_multiple G c f) x) (value_multiple (neg d) g (multiple G (neg d) g) (at_multiple G (neg d) g) x ∙ neg_mul G d _)
