-- The alphabet of a bound's members, as answers name them: those of the symbol field itself apart from those of its field.
use Rattle.field.specs.Alphabet.{Alphabet, alphabet as alphabet_all}
use Rattle.field.specs.declared.FiniteField.{Ghosts as FieldMembers}
use Rattle.field.specs.declared.SymbolField.{Ghosts as OwnMembers}

abbrev pub alphabet : {K S : Type 0} → FieldMembers K → FieldMembers S → OwnMembers S K → Alphabet K S
alphabet scalars symbols own = alphabet_all scalars (record {
  field = symbols.field;
  size = symbols.size;
  code = symbols.code;
  element = symbols.element;
  ORDER = own.ORDER;
  DEGREE = own.DEGREE;
  embed = own.embed;
  coord = own.coord;
  frobenius = own.frobenius;
})
