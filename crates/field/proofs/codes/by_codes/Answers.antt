-- Assumes nothing.
use Rattle.binary.proofs.Lift.{field_by_codes}
use Rattle.binary.proofs.Nibbles.{nibbles_binary}
use Rattle.binary.proofs.Polynomials.{bits_binary, hex_digits_binary, octets_binary, words_binary}
use Rattle.field.specs.Bit.{bits}
use Rattle.field.specs.HexDigit.{hex_digits}
use Rattle.field.specs.Octet.{octets}
use Rattle.field.specs.Word.{words}
use Rattle.field.specs.Nibble.{nibbles}
use Rattle.field.proofs.codes.by_codes.Goals as goal

pub returns : goal.returns
returns c = record {
  bit = field_by_codes bits bits_binary;
  hex = field_by_codes hex_digits hex_digits_binary;
  octet = field_by_codes octets octets_binary;
  word = field_by_codes words words_binary;
  nibble = field_by_codes nibbles nibbles_binary;
}
