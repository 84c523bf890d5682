-- The first i symbols are written, the later places are as they were.
use Rattle.std.proofs.Common.{◌≡◌}
use Rattle.field.proofs.Members.{alphabet}
use Rattle.linearized.specs.Polynomials.{at}
use Rattle.collector.specs.Interpolation.{polynomial}
use Rattle.collector.proofs.HeldPolynomials.{written}
use Rattle.collector.proofs.decoding.write.Given as goal

abbrev pub invariant-loop-i : goal.invariant-loop-i
invariant-loop-i g l =
    let A = alphabet g.F.Scalar.FiniteField g.F.FiniteField g.F.SymbolField in
    l.output ≡ written (at g.F.FiniteField.field (polynomial A l.codes)) l.i l.initial.output
