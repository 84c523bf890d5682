-- Assumes nothing.
use Rattle.std.proofs.Common.{◌≡◌, ◌^◌, ◌<◌}
use Rattle.linear.specs.Field.{iterate}
use Rattle.binary.specs.Codes.{product, times_x}
use Rattle.field.proofs.polynomials.product.Given as goal

abbrev pub invariant-loop-i : goal.invariant-loop-i
invariant-loop-i l =
    (l.power < 2 ^ l.n) × (l.power ≡ iterate (times_x l.n l.tail) l.i l.b)
    × (l.sum ≡ product l.i (iterate (times_x l.n l.tail)) l.a l.b)
