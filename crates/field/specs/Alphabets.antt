-- The alphabets of the fields of this crate.
--   octet_alphabet     octets over bits
--   word_alphabet      words over bits
--   nibble_alphabet    nibbles over hex digits
-- Assumes nothing.
use Rattle.std.specs.Prelude.{ℕ, ◌^◌}
use Rattle.linear.specs.Field.{Field}
use Rattle.binary.specs.Coded.{Coded}
use Rattle.binary.specs.Products.{octet_product, word_product, nibble_product}
use Rattle.field.specs.Alphabet.{Alphabet}
use Rattle.field.specs.Symbols.{embedding, coordinate, raised}
use Rattle.field.specs.Bit.{bits, bit_field}
use Rattle.field.specs.HexDigit.{hex_digits, hex_field}
use Rattle.field.specs.Octet.{octets, octet_field}
use Rattle.field.specs.Word.{words, word_field}
use Rattle.field.specs.Nibble.{nibbles, nibble_field}
use Rattle.field.specs.declared.bit.Bit.{Bit}
use Rattle.field.specs.declared.hex.HexDigit.{HexDigit}
use Rattle.field.specs.declared.octet.Octet.{Octet}
use Rattle.field.specs.declared.word.Word.{Word}
use Rattle.field.specs.declared.nibble.Nibble.{Nibble}

-- symbols of m scalars of s bits each, n bits in all, by their codes
abbrev pub coded_alphabet : {K S : Type 0} (s m n : ℕ) → Field K → Coded K (2 ^ s) → Field S → Coded S (2 ^ n) → (ℕ → ℕ → ℕ) → Alphabet K S
coded_alphabet s m n scalar-field scalars symbol-field symbols product = record {
  scalars = scalar-field;
  symbols = symbol-field;
  q = 2 ^ s;
  m = m;
  scalar_size = 2 ^ s;
  scalar_code = scalars.code;
  scalar_element = scalars.make;
  size = 2 ^ n;
  code = symbols.code;
  element = symbols.make;
  embed = embedding scalars symbols;
  coord = coordinate scalars symbols (2 ^ s);
  frobenius = raised symbols product s;
}

abbrev pub octet_alphabet : Alphabet Bit Octet
octet_alphabet = coded_alphabet 1 8 8 bit_field bits octet_field octets octet_product

abbrev pub word_alphabet : Alphabet Bit Word
word_alphabet = coded_alphabet 1 16 16 bit_field bits word_field words word_product

abbrev pub nibble_alphabet : Alphabet HexDigit Nibble
nibble_alphabet = coded_alphabet 4 7 28 hex_field hex_digits nibble_field nibbles nibble_product
