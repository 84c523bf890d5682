-- Symbols with their scalars, as one thing that definitions speak of.
--   Alphabet K S     what a symbol field on S over the scalars K offers
--   SymbolMembers    the ghost members of a type that is a symbol field, as a bound names them
--   alphabet         the alphabet of a type that is a symbol field
--   Lawful           the alphabet keeps the laws of a symbol field
--   symbol_rows      single symbols as a kind of row
-- Assumes nothing.
use Rattle.std.specs.Prelude.{ℕ}
use Rattle.linear.specs.Field.{Field}
use Rattle.linear.specs.Rows.{Rows}
use Rattle.field.specs.Laws.{Codes, Extension}
use Rattle.field.specs.declared.FiniteField.{Ghosts as FieldMembers}

pub record Alphabet (K S : Type 0) : Type 0 where
  pub scalars : Field K
  pub symbols : Field S
  pub q : ℕ
  pub m : ℕ
  pub scalar_size : ℕ
  pub scalar_code : K → ℕ
  pub scalar_element : ℕ → K
  pub size : ℕ
  pub code : S → ℕ
  pub element : ℕ → S
  pub embed : K → S
  pub coord : S → ℕ → K
  pub frobenius : S → S

abbrev pub SymbolMembers : Type 0 → Type 0 → Type 0
SymbolMembers S K =
    record { field : Field S; size : ℕ; code : S → ℕ; element : ℕ → S; ORDER : ℕ; DEGREE : ℕ; embed : K → S; coord : S → ℕ → K; frobenius : S → S }

abbrev pub alphabet : {K S : Type 0} → FieldMembers K → SymbolMembers S K → Alphabet K S
alphabet scalars symbols = record {
  scalars = scalars.field;
  symbols = symbols.field;
  q = symbols.ORDER;
  m = symbols.DEGREE;
  scalar_size = scalars.size;
  scalar_code = scalars.code;
  scalar_element = scalars.element;
  size = symbols.size;
  code = symbols.code;
  element = symbols.element;
  embed = symbols.embed;
  coord = symbols.coord;
  frobenius = symbols.frobenius;
}

pub record Lawful {K S : Type 0} (A : Alphabet K S) : Type 0 where
  pub scalar_codes : Codes A.scalars A.scalar_size A.scalar_code A.scalar_element
  pub codes : Codes A.symbols A.size A.code A.element
  pub extension : Extension A.scalars A.symbols A.scalar_size A.size A.q A.m A.scalar_code A.code A.embed A.coord A.frobenius

-- single symbols as a kind of row
abbrev pub symbol_rows : {K S : Type 0} → Alphabet K S → Rows K S
symbol_rows A = record { width = A.m; none = A.symbols.zero; plus = A.symbols.add; times = λ c x. A.symbols.mul (A.embed c) x; coord = A.coord }
