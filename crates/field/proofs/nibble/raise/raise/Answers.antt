-- Assumes nothing.
use Rattle.std.proofs.Common.{◌≡◌, refl, ◌∙◌, arith}
use Rattle.binary.specs.Codes.{raise}
use Rattle.binary.specs.Products.{nibble_product}
use Rattle.binary.proofs.Nibbles.{nibbles_binary}
use Rattle.binary.proofs.Powers.{raise_linear}
use Rattle.binary.proofs.Tests.{computing}
use Rattle.field.proofs.LinearMaps.{image_is}
use Rattle.field.proofs.nibble.raise.raise.Goals.{After-image}
use Rattle.field.proofs.nibble.raise.raise.Goals as goal

raised : (c : After-image) → c.image.result ≡ raise nibble_product 4 c.args.a.code
unfolding computing
raised c = c.image.ensures ∙ image_is 28 14 (raise nibble_product 4) (raise_linear nibbles_binary.ring 4).adds refl c.args.a.code c.args.a.ok _ refl tt

pub invariant_of-result : goal.invariant_of-result
invariant_of-result c = record { ok = omega (arith, raised c, nibbles_binary.raise_in c.args.a.code c.args.a.ok) }

pub returns : goal.returns
returns c = raised (goal.at.returns c).After-image
