-- Assumes nothing.
use Rattle.std.proofs.Common.{ℕ, ◌^◌, ◌<◌, sym, ap, ◌∙◌, arith}
use Rattle.binary.specs.Products.{word_product}
use Rattle.binary.proofs.Polynomials.{words_binary}
use Rattle.binary.proofs.Powers.{pow_one, power_product, power_raise}
use Rattle.field.proofs.word.products.reciprocal.Goals as goal

pub returns : goal.returns
returns c =
    let R = words_binary.ring in
    let a : ℕ = c.args.a in
    let h : a < 2 ^ 16 = omega arith in
    let one = sym (pow_one R a h) in
    let ones2 = c.product-ones2.ensures ∙ power_product R a h a _ 1 2 one (c.squares.ensures ∙ power_raise R a h a 1 1 one) in
    let ones4 = c.product-ones4.ensures ∙ power_product R a h _ _ 3 12 ones2 (c.squares-2.ensures ∙ power_raise R a h _ 2 3 ones2) in
    let ones8 = c.product-ones8.ensures ∙ power_product R a h _ _ 15 240 ones4 (c.squares-3.ensures ∙ power_raise R a h _ 4 15 ones4) in
    let ones12 = c.product-ones12.ensures ∙ power_product R a h _ _ 15 4080 ones4 (c.squares-4.ensures ∙ power_raise R a h _ 4 255 ones8) in
    let ones14 = c.product-ones14.ensures ∙ power_product R a h _ _ 3 16380 ones2 (c.squares-5.ensures ∙ power_raise R a h _ 2 4095 ones12) in
    let ones15 = c.product-ones15.ensures ∙ power_product R a h a _ 1 32766 one (c.squares-6.ensures ∙ power_raise R a h _ 1 16383 ones14) in
    ap (word_product a) (c.squares-7.ensures ∙ power_raise R a h _ 1 32767 ones15) ∙ words_binary.inverse a h c.requires
