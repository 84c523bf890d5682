-- Assumes nothing.
use Rattle.binary.proofs.Nibbles.{nibbles_binary}
use Rattle.binary.proofs.Polynomials.{bits_binary, hex_digits_binary, octets_binary, words_binary}
use Rattle.binary.proofs.fields.Goals as goal

pub returns : goal.returns
returns c = record { bit = bits_binary; hex = hex_digits_binary; octet = octets_binary; word = words_binary; nibble = nibbles_binary }
