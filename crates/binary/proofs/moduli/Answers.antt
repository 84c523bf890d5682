-- Assumes nothing.
use Rattle.binary.proofs.Nibbles.{nibble_moduli, nibble_places}
use Rattle.binary.proofs.Polynomials.{hex_modulus, octet_modulus, word_modulus}
use Rattle.binary.proofs.moduli.Goals as goal

pub returns : goal.returns
returns c = record { hex = hex_modulus; octet = octet_modulus; word = word_modulus; nibble = nibble_moduli; places = nibble_places }
