-- What the codes of a finite field keep, and what joins a symbol field to its scalars.
--   Codes       every element has one code below the field's size, and every such code its element
--   of_code     the element of a code, absent from the size on
--   Extension   symbols over scalars: q scalars, m coordinates in a symbol, the raise
-- Assumes nothing.
use Rattle.std.specs.Prelude.{◌≡◌, ℕ, ◌/◌, ◌%◌, ◌^◌, ◌<◌, ◌≤◌, cond, ◌↔◌, Some, None, Option, nat_lt}
use Rattle.linear.specs.Field.{Field, power, iterate}

pub record Codes {K : Type 0} (F : Field K) (size : ℕ) (code : K → ℕ) (element : ℕ → K) : Type 0 where
  pub code_less : (x : K) → code x < size
  pub element_code : (x : K) → element (code x) ≡ x
  pub code_element : (n : ℕ) → n < size → code (element n) ≡ n
  pub code_zero : code F.zero ≡ 0
  pub code_one : code F.one ≡ 1

abbrev pub of_code : {K : Type 0} → ℕ → (ℕ → K) → ℕ → Option K
of_code size element n = cond (nat_lt n size) (Some (element n)) None

-- F the scalars, G the symbols; `embed` gives the symbol of a scalar
pub record Extension {K S : Type 0} (F : Field K) (G : Field S) (scalars symbols q m : ℕ) (scalar_code : K → ℕ) (symbol-code : S → ℕ)
    (embed : K → S) (coord : S → ℕ → K) (frobenius : S → S) : Type 0 where
  pub two_scalars : 2 ≤ q
  pub scalar_limit : q ≤ 16
  pub one_coordinate : 1 ≤ m
  pub coordinate_limit : m ≤ 16
  pub symbol_limit : q ^ m ≤ 2 ^ 28
  pub scalar_count : scalars ≡ q
  pub symbol_count : symbols ≡ q ^ m
  -- the digits of a symbol's code in base q, lowest first, are the codes of its coordinates
  pub coord_code : (x : S) (i : ℕ) → scalar_code (coord x i) ≡ symbol-code x / q ^ i % q
  pub coord_add : (x y : S) (i : ℕ) → coord (G.add x y) i ≡ F.add (coord x i) (coord y i)
  pub coord_mul : (c : K) (x : S) (i : ℕ) → coord (G.mul (embed c) x) i ≡ F.mul c (coord x i)
  pub embed_code : (c : K) → symbol-code (embed c) ≡ scalar_code c
  pub embed_add : (a b : K) → embed (F.add a b) ≡ G.add (embed a) (embed b)
  pub embed_mul : (a b : K) → embed (F.mul a b) ≡ G.mul (embed a) (embed b)
  pub frobenius_power : (x : S) → frobenius x ≡ power G x q
  pub frobenius_add : (x y : S) → frobenius (G.add x y) ≡ G.add (frobenius x) (frobenius y)
  pub frobenius_fixed : (x : S) → (frobenius x ≡ x) ↔ ((c : K) × (embed c ≡ x))
  pub frobenius_back : (x : S) → iterate frobenius m x ≡ x
