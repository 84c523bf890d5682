-- Assumes nothing.
use Rattle.std.proofs.Common.{◌≡◌, ℕ, sym, refl, ap, ◌∙◌, le_trans, lit≤}
use Rattle.binary.specs.Codes.{pow}
use Rattle.binary.specs.Products.{nibble_product}
use Rattle.binary.proofs.Lift.{code_made}
use Rattle.binary.proofs.Nibbles.{nibbles_binary, digits_agree, digit_product}
use Rattle.binary.proofs.Powers.{pow_one, power_product}
use Rattle.binary.proofs.Whole.{norm_scalar, power_not_zero}
use Rattle.field.specs.HexDigit.{hex_digits}
use Rattle.field.proofs.nibble.products.reciprocal.Goals.{After-of-norm}
use Rattle.field.proofs.nibble.products.reciprocal.Goals as goal

product_is : (c : After-of-norm) → nibble_product c.args.a.code c.conjugates-others.result.code ≡ pow nibble_product c.args.a.code 0x1111111
product_is c =
    let R = nibbles_binary.ring in
    let a = c.args.a in
    power_product R a.code a.ok a.code c.conjugates-others.result.code 1 0x1111110 (sym (pow_one R a.code a.ok)) c.conjugates-others.ensures

norm_is : (c : After-of-norm) → c.of-norm.result.code ≡ pow nibble_product c.args.a.code 0x1111111
norm_is c =
    ap hex_digits.code (c.of-norm.ensures ∙ ap hex_digits.make (c.product.ensures ∙ product_is c))
    ∙ code_made hex_digits (pow nibble_product c.args.a.code 0x1111111) (norm_scalar nibbles_binary c.args.a.code c.args.a.ok c.requires 0x1111111 refl)

pub reciprocal-requires : goal.reciprocal-requires
reciprocal-requires c z = power_not_zero nibbles_binary c.args.a.code c.args.a.ok c.requires 0x1111111 (sym (norm_is c) ∙ z)

pub returns : goal.returns
returns c =
    let R = nibbles_binary.ring in
    let a = c.args.a in
    let b = c.conjugates-others.result in
    let norm = c.of-norm.result in
    let d = c.reciprocal.result in
    let hd = le_trans d.ok (lit≤ tt) in
    let before = (goal.at.returns c).After-of-norm in
    ap (nibble_product a.code) (c.scale.ensures ∙ digit_product d.code b.code d.ok ∙ R.mul_comm d.code b.code hd b.ok)
    ∙ sym (R.mul_assoc a.code b.code d.code a.ok b.ok hd) ∙ ap (λ (x : ℕ). nibble_product x d.code) (product_is before ∙ sym (norm_is before))
    ∙ digits_agree norm.code d.code norm.ok d.ok ∙ c.reciprocal.ensures
