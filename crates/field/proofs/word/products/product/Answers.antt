-- Assumes nothing.
use Rattle.binary.specs.Products.{word_product}
use Rattle.field.proofs.word.products.product.Goals as goal

pub returns : goal.returns
unfolding word_product
returns c = c.product.ensures.value
