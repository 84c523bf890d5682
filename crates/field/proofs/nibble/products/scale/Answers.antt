-- Assumes nothing.
use Rattle.std.proofs.Common.{refl, ap, ◌∙◌, arith, ap₂}
use lib.Bits.{bit_xor}
use Rattle.linear.specs.Field.{iterate}
use Rattle.binary.specs.Products.{scale_x}
use Rattle.binary.proofs.Bases.{product_less}
use Rattle.binary.proofs.Maps.{iterate_linear}
use Rattle.binary.proofs.Nibbles.{scale_x_linear}
use Rattle.binary.proofs.Steps.{iterate_step, product_none, product_taken, product_left}
use Rattle.field.proofs.nibble.products.scale.Goals as goal
use Rattle.field.proofs.nibble.products.scale.Goals.{then-digit-i-eq1, else-digit-i-eq1}

pub loop-i-init : goal.loop-i-init
loop-i-init c = (refl, product_none (iterate scale_x) c.number-digit.result c.args.b.code)

pub loop-i-preserved : goal.loop-i-preserved
loop-i-preserved c = (
  c.times_x-power.ensures ∙ ap scale_x c.loop-i.invariant.0 ∙ iterate_step scale_x c.loop-i.i c.args.b.code,
  elim c.if-digit-i-eq1.branch [
    | then-digit-i-eq1 w ↦ w.sum-is ∙ ap₂ bit_xor c.loop-i.invariant.1 c.loop-i.invariant.0 ∙ product_taken (iterate scale_x) c.number-digit.result c.args.b.code c.loop-i.i w.if-digit-i-eq1.true
    | else-digit-i-eq1 w ↦ w.sum-is ∙ c.loop-i.invariant.1 ∙ product_left (iterate scale_x) c.number-digit.result c.args.b.code c.loop-i.i w.if-digit-i-eq1.false
  ],
)

pub invariant_of-result : goal.invariant_of-result
invariant_of-result c =
    record { ok = omega (arith, c.loop-i.invariant.1, product_less (iterate_linear scale_x_linear) c.loop-i.i c.number-digit.result c.args.b.code c.args.b.ok) }
