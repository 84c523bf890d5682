-- Assumes nothing.
use Rattle.std.proofs.Common.{◌≡◌, ◌*◌}
use Rattle.linear.specs.Field.{iterate}
use Rattle.binary.specs.Codes.{product}
use Rattle.binary.specs.Products.{times_z}
use Rattle.binary.proofs.Nibbles.{place}
use Rattle.field.proofs.nibble.products.product.Given as goal

abbrev pub invariant-loop-i : goal.invariant-loop-i
invariant-loop-i l =
    (l.power.code ≡ iterate times_z l.i l.fn.b.code)
    × (l.sum ≡ product (4 * l.i) place l.a.code l.fn.b.code)
