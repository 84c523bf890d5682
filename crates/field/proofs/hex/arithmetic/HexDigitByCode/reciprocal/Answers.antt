-- Assumes nothing.
use Rattle.std.proofs.Common.{◌≡◌, ℕ, ◌+◌, sym, ap, ◌∙◌}
use Rattle.binary.specs.Codes.{pow}
use Rattle.binary.specs.Products.{hex_product}
use Rattle.binary.proofs.Lift.{mul_is}
use Rattle.binary.proofs.Polynomials.{hex_digits_binary}
use Rattle.binary.proofs.Powers.{pow_one, power_product}
use Rattle.field.specs.HexDigit.{hex_digits}
use Rattle.field.specs.declared.hex.HexDigit.{HexDigit}
use Rattle.field.proofs.hex.arithmetic.HexDigitByCode.reciprocal.Goals as goal

-- the product of two powers of a, whose exponents add up
product_power : (a x y r : HexDigit) (j k : ℕ) → r ≡ hex_digits.make (hex_product x.code y.code)
    → x.code ≡ pow hex_product a.code j → y.code ≡ pow hex_product a.code k → r.code ≡ pow hex_product a.code (j + k)
product_power a x y r j k e p q =
    ap hex_digits.code e ∙ mul_is hex_digits hex_digits_binary x y ∙ power_product hex_digits_binary.ring a.code a.ok x.code y.code j k p q

pub returns : goal.returns
returns c =
    let a = c.args.self in
    let one = sym (pow_one hex_digits_binary.ring a.code a.ok) in
    let square = product_power a a a _ 1 1 c.product-square.ensures one one in
    let cube = product_power a a c.product-square.result _ 1 2 c.product-cube.ensures one square in
    let sixth = product_power a c.product-cube.result c.product-cube.result _ 3 3 c.product-sixth.ensures cube cube in
    let seventh = product_power a a c.product-sixth.result _ 1 6 c.product-seventh.ensures one sixth in
    ap (hex_product a.code) (product_power a c.product-seventh.result c.product-seventh.result _ 7 7 c.product.ensures seventh seventh) ∙ hex_digits_binary.inverse a.code a.ok c.requires
