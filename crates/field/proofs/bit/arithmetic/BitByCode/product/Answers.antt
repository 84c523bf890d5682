-- Assumes nothing.
use Rattle.std.proofs.Common.{ap, ◌∙◌}
use Rattle.binary.proofs.Polynomials.{bit_product_and}
use Rattle.field.specs.Bit.{bits}
use Rattle.field.proofs.bit.arithmetic.BitByCode.product.Goals as goal

pub returns : goal.returns
returns c = c.of.ensures ∙ ap bits.make (bit_product_and c.args.self.code c.args.other.code c.args.self.ok c.args.other.ok)
