-- Assumes nothing.
use Rattle.std.proofs.Common.{ℕ, sym, ap, ◌∙◌, ⊎_elim, arith}
use Rattle.binary.specs.Products.{octet_product}
use Rattle.binary.proofs.Polynomials.{octets_binary}
use Rattle.binary.proofs.Powers.{mul-zero, zero-mul}
use Rattle.field.proofs.Exponents.{exponent_sum, exponent_turned}
use Rattle.field.proofs.octet.arithmetic.product.Goals.{then-sum-lt255, else-sum-lt255}
use Rattle.field.proofs.octet.arithmetic.product.Goals as goal

pub returns-then-a-eq0 : goal.returns-then-a-eq0
returns-then-a-eq0 c =
    ⊎_elim (λ z. sym (ap (λ (x : ℕ). octet_product x c.args.b) z ∙ zero-mul octets_binary.ring c.args.b (omega arith)))
    (λ z. sym (ap (octet_product c.args.a) z.1 ∙ mul-zero octets_binary.ring c.args.a (omega arith)))
    c.then-a-eq0.either

pub returns : goal.returns
returns c =
    let sum = exponent_sum c.args.a c.args.b c.exponent.result c.exponent-2.result c.exponent.ensures c.exponent-2.ensures in
    let turned = exponent_turned c.args.a c.args.b c.exponent.result c.exponent-2.result c.exponent.ensures c.exponent-2.ensures in
    c.power_of_three.ensures
    ∙ elim c.if-sum-lt255.branch [
      | then-sum-lt255 w ↦ sum c.if-sum-lt255.turned (omega (arith, w.turned-is))
      | else-sum-lt255 w ↦ turned c.if-sum-lt255.turned (omega (arith, w.turned-is))
    ]
