-- Words as a field.
--   words        the words by their codes
--   word_field   the field of 2 ^ 16 elements
-- Assumes nothing.
use Rattle.std.specs.Prelude.{◌^◌, refl}
use Rattle.linear.specs.Field.{Field}
use Rattle.binary.specs.Coded.{Coded, coded}
use Rattle.binary.proofs.Lift.{field_of}
use Rattle.binary.proofs.Polynomials.{words_binary}
use Rattle.field.specs.declared.word.Word.{Word}

abbrev pub words : Coded Word (2 ^ 16)
words = coded 16 (λ x. x.code) (λ a h. record { code = a; ok = h }) (λ x. x.ok) (λ a h. refl) (λ x. refl)

abbrev pub word_field : Field Word
word_field = field_of words words_binary
