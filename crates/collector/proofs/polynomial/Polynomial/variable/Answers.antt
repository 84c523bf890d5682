use Rattle.std.proofs.Common.{arith}
use Rattle.collector.proofs.HeldPolynomials.{zeros_after}
use Rattle.collector.proofs.polynomial.Polynomial.variable.Goals as goal

pub invariant_of-result : goal.invariant_of-result
invariant_of-result g c = (omega arith, zeros_after c.store.result 47)
