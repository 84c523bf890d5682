-- Assumes nothing.
use Rattle.std.proofs.Common.{◌≡◌}
use Rattle.linear.specs.Field.{iterate}
use Rattle.binary.specs.Codes.{product}
use Rattle.binary.specs.Products.{scale_x}
use Rattle.field.proofs.nibble.products.scale.Given as goal

abbrev pub invariant-loop-i : goal.invariant-loop-i
invariant-loop-i l =
    (l.power.code ≡ iterate scale_x l.i l.fn.b.code)
    × (l.sum ≡ product l.i (iterate scale_x) l.digit l.fn.b.code)
