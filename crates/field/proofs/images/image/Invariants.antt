-- Assumes nothing.
use Rattle.std.proofs.Common.{◌≡◌, [], get_or}
use Rattle.binary.specs.Codes.{sum, digit}
use Rattle.field.proofs.images.image.Given as goal

abbrev pub invariant-loop-i : goal.invariant-loop-i
invariant-loop-i l = l.sum ≡ sum l.i (λ i. get_or (get_or l.images i []) (digit 2 i l.a) 0)
