-- Symbols over scalars, both fields of codes, are an extension where the two products agree on the scalars' codes.
-- Assumes nothing.
use Rattle.std.specs.Prelude.{◌≡◌, ℕ, zero, suc, ◌/◌, ◌^◌, ◌<◌, ◌≤◌, bit_xor, refl}
use Rattle.std.proofs.Common.{sym, ap₂, ◌∙◌, subst, le_trans, arith, pow_mono}
use Rattle.std.proofs.Math.Path.{ap}
use Rattle.std.proofs.Math.Decide.{dec_lt}
use Rattle.linear.specs.Field.{Field, power, iterate}
use Rattle.binary.specs.Codes.{pow, raise, digit}
use Rattle.binary.specs.Binary.{Binary}
use Rattle.binary.specs.Coded.{Coded, ByCodes}
use Rattle.binary.proofs.Sums.{digit_is, digit_scalar, digit_none, pow_pow, digits_some, scalars_within}
use Rattle.binary.proofs.Powers.{mul-zero, products_agree}
use Rattle.binary.proofs.Lift.{code_made, make_code}
use Rattle.field.specs.Laws.{Extension}
use Rattle.field.specs.Symbols.{embedding, coordinate, raised}
use Rattle.field.specs.Elements.{is_sum, is_product}

module _ {K S : Type 0} {n s m t k : ℕ} {mul mul' : ℕ → ℕ → ℕ} {F : Field K} {G : Field S} {scalars : Coded K (2 ^ s)} {symbols : Coded S (2 ^ n)}
    (A : Binary s t k mul') (B : Binary n s m mul) (PF : ByCodes scalars mul' F) (PG : ByCodes symbols mul G)
    (basis : (i j : ℕ) → i < s → j < s → mul (2 ^ i) (2 ^ j) ≡ mul' (2 ^ i) (2 ^ j)) where
  within : 2 ^ s ≤ 2 ^ n
  within = scalars_within n s m B.ring.one_in B.size

  agrees : (a b : ℕ) → a < 2 ^ s → b < 2 ^ s → mul a b ≡ mul' a b
  agrees = products_agree B.ring A.ring within basis

  code_in : (c : K) → scalars.code c < 2 ^ n
  code_in c = le_trans (scalars.code_less c) within

  embed_code : (c : K) → symbols.code (embedding scalars symbols c) ≡ scalars.code c
  embed_code c = code_made symbols (scalars.code c) (code_in c)

  coord_code : (x : S) (i : ℕ) → scalars.code (coordinate scalars symbols (2 ^ s) x i) ≡ digit s i (symbols.code x)
  coord_code x i = scalars.code_make (symbols.code x / (2 ^ s) ^ i) ∙ digit_is s i (symbols.code x)

  -- the digits of a multiple, also past the last
  digit_multiple : (i c a : ℕ) → c < 2 ^ s → a < 2 ^ n → Dec (i < m) → digit s i (mul c a) ≡ mul' c (digit s i a)
  digit_multiple i c a hc ha (yes l) = B.digit_mul i c a l hc ha ∙ agrees c (digit s i a) hc (digit_scalar s i a)
  digit_multiple i c a hc ha (no q) =
      let l : m ≤ i = omega arith in
      digit_none n s m i (mul c a) B.size (B.ring.mul_in c a (le_trans hc within) ha) l
      ∙ sym (ap (mul' c) (digit_none n s m i a B.size ha l) ∙ mul-zero A.ring c hc)

  raised_code : (x : S) → symbols.code (raised symbols mul s x) ≡ raise mul s (symbols.code x)
  raised_code x = code_made symbols (raise mul s (symbols.code x)) (B.raise_in (symbols.code x) (symbols.code_less x))

  iterate_code : (j : ℕ) (x : S) → symbols.code (iterate (raised symbols mul s) j x) ≡ iterate (raise mul s) j (symbols.code x)
  iterate_code zero x = refl
  iterate_code (suc j) x = raised_code (iterate (raised symbols mul s) j x) ∙ ap (raise mul s) (iterate_code j x)

  power_code : (x : S) (j : ℕ) → symbols.code (power G x j) ≡ pow mul (symbols.code x) j
  unfolding pow
  power_code x zero = PG.one_code
  power_code x (suc j) = PG.mul_code x (power G x j) ∙ ap (mul (symbols.code x)) (power_code x j)

  fixed_embeds : (x : S) → raised symbols mul s x ≡ x → (c : K) × (embedding scalars symbols c ≡ x)
  fixed_embeds x e =
      let l : symbols.code x < 2 ^ s = B.fixed_scalar (symbols.code x) (symbols.code_less x) (sym (raised_code x) ∙ ap symbols.code e) in
      (scalars.make (symbols.code x), ap symbols.make (code_made scalars (symbols.code x) l) ∙ make_code symbols x)

  embeds_fixed : (x : S) → (c : K) × (embedding scalars symbols c ≡ x) → raised symbols mul s x ≡ x
  embeds_fixed x (c, e) =
      let l : symbols.code x < 2 ^ s = subst (λ (a : ℕ). a < 2 ^ s) (sym (embed_code c) ∙ ap symbols.code e) (scalars.code_less c) in
      ap symbols.make (B.scalar_fixed (symbols.code x) l) ∙ make_code symbols x

  pub extension : s ≤ 4 → m ≤ 16 → n ≤ 28
      → Extension F G (2 ^ s) (2 ^ n) (2 ^ s) m scalars.code symbols.code (embedding scalars symbols) (coordinate scalars symbols (2 ^ s)) (raised symbols mul s)
  extension hs hm hn = record {
    two_scalars = A.ring.one_in;
    scalar_limit = pow_mono hs;
    one_coordinate = digits_some n s m B.ring.one_in B.size;
    coordinate_limit = hm;
    symbol_limit = subst (λ (a : ℕ). a ≤ 2 ^ 28) symbol_count (pow_mono hn);
    scalar_count = refl;
    symbol_count = symbol_count;
    coord_code = λ x i. scalars.code_make (symbols.code x / (2 ^ s) ^ i);
    coord_add = λ x y i. is_sum PF _ _ _
        (coord_code (G.add x y) i ∙ ap (digit s i) (PG.add_code x y) ∙ B.digit_sum i (symbols.code x) (symbols.code y)
        ∙ sym (ap₂ bit_xor (coord_code x i) (coord_code y i)));
    coord_mul = λ c x i. is_product PF _ _ _
        (coord_code (G.mul (embedding scalars symbols c) x) i
        ∙ ap (digit s i) (PG.mul_code (embedding scalars symbols c) x ∙ ap (λ (a : ℕ). mul a (symbols.code x)) (embed_code c))
        ∙ digit_multiple i (scalars.code c) (symbols.code x) (scalars.code_less c) (symbols.code_less x) (dec_lt i m)
        ∙ sym (ap (mul' (scalars.code c)) (coord_code x i)));
    embed_code = embed_code;
    embed_add = λ a b. is_sum PG _ _ _
        (embed_code (F.add a b) ∙ PF.add_code a b ∙ sym (ap₂ bit_xor (embed_code a) (embed_code b)));
    embed_mul = λ a b. is_product PG _ _ _
        (embed_code (F.mul a b) ∙ PF.mul_code a b ∙ sym (agrees (scalars.code a) (scalars.code b) (scalars.code_less a) (scalars.code_less b))
        ∙ sym (ap₂ mul (embed_code a) (embed_code b)));
    frobenius_power = λ x. symbols.same _ _
        (raised_code x ∙ B.raise_power (symbols.code x) (symbols.code_less x) ∙ sym (power_code x (2 ^ s)));
    frobenius_add = λ x y. is_sum PG _ _ _
        (raised_code (G.add x y) ∙ ap (raise mul s) (PG.add_code x y)
        ∙ B.raise_sum (symbols.code x) (symbols.code y) (symbols.code_less x) (symbols.code_less y)
        ∙ sym (ap₂ bit_xor (raised_code x) (raised_code y)));
    frobenius_fixed = λ x. (fixed_embeds x, embeds_fixed x);
    frobenius_back = λ x. symbols.same _ _ (iterate_code m x ∙ B.raise_back (symbols.code x) (symbols.code_less x));
  }
    where
      symbol_count : 2 ^ n ≡ (2 ^ s) ^ m
      symbol_count = ap (λ (k : ℕ). 2 ^ k) B.size ∙ sym (pow_pow s m)
