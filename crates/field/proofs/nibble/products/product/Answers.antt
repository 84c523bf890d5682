-- Assumes nothing.
use Rattle.std.proofs.Common.{◌≡◌, ℕ, ◌*◌, refl, ap, ◌∙◌, ap₂, arith}
use lib.Bits.{bit_xor}
use Rattle.linear.specs.Field.{iterate}
use Rattle.binary.specs.Codes.{product, digit}
use Rattle.binary.specs.Products.{nibble_product, scale_x, times_z}
use Rattle.binary.proofs.Nibbles.{place, nibble_step, nibbles_binary}
use Rattle.binary.proofs.Steps.{iterate_step, product_none}
use Rattle.field.specs.HexDigit.{hex_digits}
use Rattle.field.proofs.nibble.products.product.Goals.{After-loop-i}
use Rattle.field.proofs.nibble.products.product.Goals as goal

pub loop-i-init : goal.loop-i-init
loop-i-init c = (refl, product_none place c.args.a.code c.args.b.code)

pub loop-i-preserved : goal.loop-i-preserved
unfolding digit
loop-i-preserved c =
    let i = c.loop-i.i in
    let part = c.scale-sum.ensures ∙ ap₂ (product 4 (iterate scale_x)) (ap hex_digits.code c.of.ensures) c.loop-i.invariant.0 in (
      c.times_z-power.ensures ∙ ap times_z c.loop-i.invariant.0 ∙ iterate_step times_z i c.args.b.code,
      ap₂ bit_xor c.loop-i.invariant.1 part ∙ nibble_step i c.args.a.code c.args.b.code,
    )

is_product : (c : After-loop-i) → c.loop-i.sum ≡ nibble_product c.args.a.code c.args.b.code
unfolding nibble_product
is_product c =
    let all : c.loop-i.i ≡ 7 = omega arith in
    c.loop-i.invariant.1 ∙ ap (λ (k : ℕ). product (4 * k) place c.args.a.code c.args.b.code) all

pub invariant_of-result : goal.invariant_of-result
invariant_of-result c =
    record { ok = omega (arith, is_product c, nibbles_binary.ring.mul_in c.args.a.code c.args.b.code c.args.a.ok c.args.b.ok) }

pub returns : goal.returns
returns c = is_product (goal.at.returns c).After-loop-i
