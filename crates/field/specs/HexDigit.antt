-- Hex digits as a field.
--   hex_digits   the hex digits by their codes
--   hex_field    the field of 16 elements
-- Assumes nothing.
use Rattle.std.specs.Prelude.{◌^◌, refl}
use Rattle.linear.specs.Field.{Field}
use Rattle.binary.specs.Coded.{Coded, coded}
use Rattle.binary.proofs.Lift.{field_of}
use Rattle.binary.proofs.Polynomials.{hex_digits_binary}
use Rattle.field.specs.declared.hex.HexDigit.{HexDigit}

abbrev pub hex_digits : Coded HexDigit (2 ^ 4)
hex_digits = coded 4 (λ x. x.code) (λ a h. record { code = a; ok = h }) (λ x. x.ok) (λ a h. refl) (λ x. refl)

abbrev pub hex_field : Field HexDigit
hex_field = field_of hex_digits hex_digits_binary
