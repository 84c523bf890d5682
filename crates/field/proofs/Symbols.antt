-- Single symbols as rows keep the laws of rows; coordinates by codes.
use Rattle.std.proofs.Common.{◌≡◌, ℕ, ◌/◌, ◌%◌, ◌^◌, ◌<◌, ◌≤◌, sym, ap, ◌∙◌, subst, arith}
use native.Mathlib.Nat.{zero-div, zero-mod}
use Rattle.linear.specs.Rows.{RowLaws}
use Rattle.field.specs.Alphabet.{Alphabet, Lawful, symbol_rows}
use Rattle.field.proofs.Digits.{digits_same, digit_none, digits_below}

module _ {K S : Type 0} {A : Alphabet K S} (laws : Lawful A) where
  base : 0 < A.q
  base = omega (arith, laws.extension.two_scalars)

  -- equal codes, equal elements
  pub code_same : (x y : S) → A.code x ≡ A.code y → x ≡ y
  code_same x y e = sym (laws.codes.element_code x) ∙ ap A.element e ∙ laws.codes.element_code y

  pub scalar_code_same : (a b : K) → A.scalar_code a ≡ A.scalar_code b → a ≡ b
  scalar_code_same a b e = sym (laws.scalar_codes.element_code a) ∙ ap A.scalar_element e ∙ laws.scalar_codes.element_code b

  pub code_limit : (x : S) → A.code x < A.q ^ A.m
  code_limit x = subst (λ n. A.code x < n) laws.extension.symbol_count (laws.codes.code_less x)

  -- a coordinate is zero exactly if the digit is
  pub coord_zero : (x : S) (i : ℕ) → A.code x / A.q ^ i % A.q ≡ 0 → A.coord x i ≡ A.scalars.zero
  coord_zero x i e = scalar_code_same (A.coord x i) A.scalars.zero (laws.extension.coord_code x i ∙ e ∙ sym laws.scalar_codes.code_zero)

  pub zero_digit : (x : S) (i : ℕ) → A.coord x i ≡ A.scalars.zero → A.code x / A.q ^ i % A.q ≡ 0
  zero_digit x i e = sym (laws.extension.coord_code x i) ∙ ap A.scalar_code e ∙ laws.scalar_codes.code_zero

  pub coord_past : (x : S) (l i : ℕ) → A.code x < A.q ^ l → l ≤ i → A.coord x i ≡ A.scalars.zero
  coord_past x l i h k = coord_zero x i (digit_none A.q base (A.code x) l i h k)

  pub code_below : (x : S) (l : ℕ) → l ≤ A.m → ((i : ℕ) → l ≤ i → i < A.m → A.coord x i ≡ A.scalars.zero) → A.code x < A.q ^ l
  code_below x l h z = digits_below A.q base (A.code x) l A.m h (code_limit x) (λ i a b. zero_digit x i (z i a b))

  pub coord_same : (x y : S) → ((i : ℕ) → i < A.m → A.coord x i ≡ A.coord y i) → x ≡ y
  coord_same x y e =
      code_same x y
      (digits_same A.q base (A.code x) (A.code y) A.m (code_limit x) (code_limit y) (λ i h.
      sym (laws.extension.coord_code x i) ∙ ap A.scalar_code (e i h) ∙ laws.extension.coord_code y i))

  pub symbol_laws : RowLaws A.scalars (symbol_rows A)
  symbol_laws = record {
    coord_none = λ i. coord_zero A.symbols.zero i
        (ap (λ n. n / A.q ^ i % A.q) laws.codes.code_zero ∙ ap (λ n. n % A.q) (zero-div (A.q ^ i)) ∙ zero-mod A.q);
    coord_plus = laws.extension.coord_add;
    coord_times = laws.extension.coord_mul;
    same = coord_same;
  }
