-- Bits as a field.
--   bits        the bits by their codes
--   bit_field   the field of two elements
-- Assumes nothing.
use Rattle.std.specs.Prelude.{◌^◌, refl}
use Rattle.linear.specs.Field.{Field}
use Rattle.binary.specs.Coded.{Coded, coded}
use Rattle.binary.proofs.Lift.{field_of}
use Rattle.binary.proofs.Polynomials.{bits_binary}
use Rattle.field.specs.declared.bit.Bit.{Bit}

abbrev pub bits : Coded Bit (2 ^ 1)
bits = coded 1 (λ x. x.code) (λ a h. record { code = a; ok = h }) (λ x. x.ok) (λ a h. refl) (λ x. refl)

abbrev pub bit_field : Field Bit
bit_field = field_of bits bits_binary
