-- Octets as a field.
--   octets        the octets by their codes
--   octet_field   the field of 256 elements
-- Assumes nothing.
use Rattle.std.specs.Prelude.{◌^◌, refl}
use Rattle.linear.specs.Field.{Field}
use Rattle.binary.specs.Coded.{Coded, coded}
use Rattle.binary.proofs.Lift.{field_of}
use Rattle.binary.proofs.Polynomials.{octets_binary}
use Rattle.field.specs.declared.octet.Octet.{Octet}

abbrev pub octets : Coded Octet (2 ^ 8)
octets = coded 8 (λ x. x.code) (λ a h. record { code = a; ok = h }) (λ x. x.ok) (λ a h. refl) (λ x. refl)

abbrev pub octet_field : Field Octet
octet_field = field_of octets octets_binary
