-- The first i places are negated, the later ones are as they were.
use Rattle.std.proofs.Common.{◌≡◌}
use Rattle.field.proofs.Members.{alphabet}
use Rattle.linearized.specs.Polynomials.{at}
use Rattle.collector.specs.Interpolation.{polynomial}
use Rattle.collector.proofs.HeldPolynomials.{written}
use Rattle.collector.proofs.polynomial.Polynomial.negate.Given as goal

abbrev pub invariant-loop-slot : goal.invariant-loop-slot
invariant-loop-slot g l =
    let A = alphabet g.F.Scalar.FiniteField g.F.FiniteField g.F.SymbolField in
    let G = g.F.FiniteField.field in
    let f = polynomial A l.initial.slot-items in
    polynomial A l.slot-items ≡ written (λ n. G.neg (at G f n)) l.slot-index f
