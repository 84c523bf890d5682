-- Nibbles as a field.
--   nibbles        the nibbles by their codes
--   nibble_field   the field of 2 ^ 28 elements
-- Assumes nothing.
use Rattle.std.specs.Prelude.{◌^◌, refl}
use Rattle.linear.specs.Field.{Field}
use Rattle.binary.specs.Coded.{Coded, coded}
use Rattle.binary.proofs.Lift.{field_of}
use Rattle.binary.proofs.Nibbles.{nibbles_binary}
use Rattle.field.specs.declared.nibble.Nibble.{Nibble}

abbrev pub nibbles : Coded Nibble (2 ^ 28)
nibbles = coded 28 (λ x. x.code) (λ a h. record { code = a; ok = h }) (λ x. x.ok) (λ a h. refl) (λ x. refl)

abbrev pub nibble_field : Field Nibble
nibble_field = field_of nibbles nibbles_binary
