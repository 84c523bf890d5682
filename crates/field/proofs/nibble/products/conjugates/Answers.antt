-- Assumes nothing.
use Rattle.std.proofs.Common.{sym, ◌∙◌}
use Rattle.binary.proofs.Nibbles.{nibbles_binary}
use Rattle.binary.proofs.Powers.{pow_one, power_product, power_raise}
use Rattle.field.proofs.nibble.products.conjugates.Goals as goal

pub returns : goal.returns
returns c =
    let R = nibbles_binary.ring in
    let a = c.args.a.code in
    let h = c.args.a.ok in
    let one = c.raise-one.ensures ∙ power_raise R a h a 4 1 (sym (pow_one R a h)) in
    let two = c.product-two.ensures ∙ power_product R a h _ _ 0x10 0x100 one (c.raise.ensures ∙ power_raise R a h _ 4 0x10 one) in
    let three = c.product-three.ensures ∙ power_product R a h _ _ 0x10 0x1100 one (c.raise-2.ensures ∙ power_raise R a h _ 4 0x110 two) in
    let once = c.raise-3.ensures ∙ power_raise R a h _ 4 0x1110 three in
    let twice = c.raise-4.ensures ∙ power_raise R a h _ 4 0x11100 once in
    let thrice = c.raise-5.ensures ∙ power_raise R a h _ 4 0x111000 twice in
    c.product.ensures ∙ power_product R a h _ _ 0x1110 0x1110000 three thrice
