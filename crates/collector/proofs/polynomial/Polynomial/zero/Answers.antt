use Rattle.std.proofs.Common.{arith}
use Rattle.collector.proofs.HeldPolynomials.{zeros_at}
use Rattle.collector.proofs.polynomial.Polynomial.zero.Goals as goal

pub invariant_of-result : goal.invariant_of-result
invariant_of-result g c = (omega arith, λ n l. zeros_at 48 n)
