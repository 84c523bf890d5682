-- Assumes nothing.
use Rattle.std.proofs.Common.{◌-◌, sym, arith}
use Rattle.field.proofs.Exponents.{exponent_one}
use Rattle.field.proofs.octet.arithmetic.reciprocal.Goals as goal

pub returns : goal.returns
returns c =
    exponent_one c.args.a c.power_of_three.result c.exponent.result (255 - c.exponent.result) c.exponent.ensures
    (sym c.power_of_three.ensures) (omega (arith, c.exponent.type_inv))
