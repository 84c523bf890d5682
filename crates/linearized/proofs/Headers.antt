-- Headers with codes below q^ℓ: the span of b_0 to b_(ℓ − 1), which are independent.
use Rattle.std.proofs.Common.{◌≡◌, ℕ, zero as 0ₙ, suc, ◌+◌, ◌-◌, ◌*◌, ◌/◌, ◌%◌, ◌^◌, ◌<◌, ◌≤◌, ◌⊎◌, List, [], ◌∷◌, map, length, get_or, sym, ap, ◌∙◌, ap₂, inl, inr, mod-eq_of_lt, mul-le-mul_left, pow-suc, mul-div_cancel, arith, pow-add}
use native.Mathlib.Nat.{mul-mod_left, div_self}
use native.Mathlib.Decide.{dec_lt}
use Rattle.std.specs.List.{range_with_len}
use Rattle.std.proofs.lemmas.List.FromFn.{length-map-range_with_len, get_or-map-range_with_len}
use Rattle.linear.specs.Span.{combination, Spans, Independent}
use Rattle.linear.proofs.Fields.{mul-zero, zero-add as zero-plus}
use Rattle.linear.proofs.Each.{each_from}
use Rattle.field.specs.Alphabet.{Alphabet, Lawful, symbol_rows}
use Rattle.field.proofs.Alphabets.{basis_in}
use Rattle.field.proofs.Digits.{power_positive, digit_none}
use Rattle.field.proofs.Symbols.{symbol_laws, scalar_code_same, coord_zero, coord_past, coord_same, code_below}
use Rattle.linearized.specs.Code.{basis}

-- the digits of q^i in base q
module _ (q : ℕ) (two : 2 ≤ q) where
  base : 0 < q
  base = omega arith

  pub power_digit : (i : ℕ) → q ^ i / q ^ i % q ≡ 1
  power_digit i = ap (λ d. d % q) (div_self (power_positive q base i)) ∙ mod-eq_of_lt two

  power_rises : (i : ℕ) → q ^ i < q ^ suc i
  power_rises i = let more : q ^ i * 2 ≤ q ^ i * q = mul-le-mul_left (q ^ i) two in omega (arith, power_positive q base i, pow-suc q i)

  pub power_digit_other : (i j : ℕ) → ¬ (j ≡ i) → q ^ i / q ^ j % q ≡ 0
  power_digit_other i j ne = elim (dec_lt j i) [
    | yes l ↦
        let e = i - suc j in
        let place : suc e + j ≡ i = omega arith in
        let split : q ^ i ≡ q ^ e * q * q ^ j = ap (λ n. q ^ n) (sym place) ∙ pow-add q (suc e) j ∙ ap (λ n. n * q ^ j) (pow-suc q e) in
        ap (λ n. n % q) (ap (λ n. n / q ^ j) split ∙ mul-div_cancel (q ^ e * q) (power_positive q base j)) ∙ mul-mod_left (q ^ e) q
    | no l ↦ digit_none q base (q ^ i) (suc i) j (power_rises i) (omega arith)
  ]

module _ {K S : Type 0} (A : Alphabet K S) where
  -- b_0 to b_(ℓ − 1)
  abbrev pub header_basis : ℕ → List S
  header_basis ℓ = map (basis A) (range_with_len 0 ℓ)

module _ {K S : Type 0} {A : Alphabet K S} (laws : Lawful A) where
  open A use {scalars as F, q, m, coord, code}

  basis_code : (i : ℕ) → i < m → code (basis A i) ≡ q ^ i
  basis_code i h = laws.codes.code_element (q ^ i) (basis_in laws i h)

  pub coord_basis : (i : ℕ) → i < m → coord (basis A i) i ≡ F.one
  coord_basis i h =
      scalar_code_same laws _ _
      (laws.extension.coord_code (basis A i) i ∙ ap (λ n. n / q ^ i % q) (basis_code i h) ∙ power_digit q laws.extension.two_scalars i ∙ sym laws.scalar_codes.code_one)

  pub coord_basis_other : (i j : ℕ) → i < m → ¬ (j ≡ i) → coord (basis A i) j ≡ F.zero
  coord_basis_other i j h ne = coord_zero laws (basis A i) j (ap (λ n. n / q ^ j % q) (basis_code i h) ∙ power_digit_other q laws.extension.two_scalars i j ne)

  -- coordinates of a combination of b_a to b_(a + n − 1)
  outside : (cs : List K) (a n j : ℕ) → a + n ≤ m → (j < a) ⊎ (a + n ≤ j) → coord (combination (symbol_rows A) cs (map (basis A) (range_with_len a n))) j ≡ F.zero
  outside [] a n j h o = (symbol_laws laws).coord_none j
  outside (c ∷ cs) a 0ₙ j h o = (symbol_laws laws).coord_none j
  outside (c ∷ cs) a (suc n) j h o =
      laws.extension.coord_add _ _ j
      ∙ ap₂ F.add (laws.extension.coord_mul c (basis A a) j ∙ ap (F.mul c) (coord_basis_other a j (omega arith) (apart o)) ∙ mul-zero F c)
      (outside cs (a + 1) n j (omega arith) (moved o)) ∙ F.add-zero F.zero
    where
      apart : (j < a) ⊎ (a + suc n ≤ j) → ¬ (j ≡ a)
      apart (inl l) e = omega arith
      apart (inr l) e = omega arith

      moved : (j < a) ⊎ (a + suc n ≤ j) → (j < a + 1) ⊎ (a + 1 + n ≤ j)
      moved (inl l) = inl (omega arith)
      moved (inr l) = inr (omega arith)

  inside : (cs : List K) (a n i : ℕ) → length cs ≡ n → a + n ≤ m → i < n → coord (combination (symbol_rows A) cs (map (basis A) (range_with_len a n))) (a + i) ≡ get_or cs i F.zero
  inside [] a n i e h l = absurd (omega arith)
  inside (c ∷ cs) a 0ₙ i e h l = absurd (omega arith)
  inside (c ∷ cs) a (suc n) 0ₙ e h l =
      let here : a + 0 ≡ a = omega arith in
      ap (coord _) here ∙ laws.extension.coord_add _ _ a
      ∙ ap₂ F.add (laws.extension.coord_mul c (basis A a) a ∙ ap (F.mul c) (coord_basis a (omega arith)) ∙ F.mul_one c) (outside cs (a + 1) n a (omega arith) (inl (omega arith)))
      ∙ F.add-zero c
  inside (c ∷ cs) a (suc n) (suc i) e h l =
      let there : a + suc i ≡ a + 1 + i = omega arith in
      laws.extension.coord_add _ _ (a + suc i)
      ∙ ap₂ F.add (laws.extension.coord_mul c (basis A a) (a + suc i) ∙ ap (F.mul c) (coord_basis_other a (a + suc i) (omega arith) (omega arith)) ∙ mul-zero F c)
      (ap (coord _) there ∙ inside cs (a + 1) n i (omega arith) (omega arith) (omega arith)) ∙ zero-plus F _

  pub headers_spanned : (ℓ : ℕ) → ℓ ≤ m → Spans (symbol_rows A) (header_basis A ℓ) (λ x. code x < q ^ ℓ)
  headers_spanned ℓ h x = (
    λ (cs, many, e). code_below laws x ℓ h (λ i l k. ap (λ y. coord y i) (sym e) ∙ outside cs 0 ℓ i (omega arith) (inr (omega arith))),
    λ below.
        let cs = map (coord x) (range_with_len 0 ℓ) in
        let count = length-map-range_with_len (coord x) 0 ℓ in (
          cs,
          count ∙ sym (length-map-range_with_len (basis A) 0 ℓ),
          coord_same laws _ x (λ i l. elim (dec_lt i ℓ) [
            | yes k ↦
                let place : 0 + i ≡ i = omega arith in
                ap (coord _) (sym place) ∙ inside cs 0 ℓ i count (omega arith) k ∙ get_or-map-range_with_len (coord x) 0 ℓ i i F.zero k place
            | no k ↦ outside cs 0 ℓ i (omega arith) (inr (omega arith)) ∙ sym (coord_past laws x ℓ i below (omega arith))
          ]),
        ),
  )

  pub headers_independent : (ℓ : ℕ) → ℓ ≤ m → Independent (symbol_rows A) F (header_basis A ℓ)
  headers_independent ℓ h cs many e = each_from (λ c. c ≡ F.zero) F.zero cs (λ i l.
      let place : 0 + i ≡ i = omega arith in
      sym (inside cs 0 ℓ i (many ∙ length-map-range_with_len (basis A) 0 ℓ) (omega arith) (omega (arith, length-map-range_with_len (basis A) 0 ℓ)))
      ∙ ap (coord _) place ∙ ap (λ y. coord y i) e ∙ (symbol_laws laws).coord_none i)
