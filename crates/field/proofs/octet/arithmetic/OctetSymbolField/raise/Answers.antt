-- Assumes nothing.
use Rattle.binary.specs.Codes.{raise, square}
use Rattle.field.proofs.octet.arithmetic.OctetSymbolField.raise.Goals as goal

pub returns : goal.returns
unfolding raise square
returns c = c.times.ensures
