use Rattle.linearized.proofs.Values.{value_add, value_scalar, value_sum, value_multiple, value_composed, value_same}
use Rattle.linearized.proofs.value_laws.Goals as goal

pub returns : goal.returns
returns g c = λ A laws. record {
  of_symbols = value_add laws;
  of_scalar = value_scalar laws;
  of_sum = value_sum laws;
  of_multiple = value_multiple laws;
  of_composed = value_composed laws;
  of_same = value_same laws;
}
