-- Assumes nothing.
use Rattle.std.proofs.Common.{ap, ap₂, ◌∙◌}
use Rattle.binary.specs.Products.{hex_product}
use Rattle.field.specs.HexDigit.{hex_digits}
use Rattle.field.proofs.hex.arithmetic.HexDigitByCode.product.Goals as goal

pub returns : goal.returns
unfolding hex_product
returns c = c.of.ensures ∙ ap hex_digits.make (c.product.ensures.value ∙ ap₂ hex_product c.number.ensures c.number-2.ensures)
