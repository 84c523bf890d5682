-- Assumes nothing.
use Rattle.std.proofs.Common.{◌≡◌, ap, ◌∙◌, arith}
use Rattle.binary.specs.Products.{bit_product}
use Rattle.binary.proofs.Polynomials.{bits_binary}
use Rattle.field.proofs.bit.arithmetic.BitByCode.reciprocal.Goals as goal

-- the only bit that is not zero is one
pub returns : goal.returns
returns c =
    let one : c.args.self.code ≡ 1 = omega arith in
    ap (bit_product c.args.self.code) one ∙ bits_binary.ring.mul_one c.args.self.code c.args.self.ok ∙ one
