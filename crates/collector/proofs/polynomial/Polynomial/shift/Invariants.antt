-- The first i places are shifted, the later ones are as they were, and the coefficient before place i is kept.
use Rattle.std.proofs.Common.{◌≡◌}
use Rattle.field.proofs.Members.{alphabet}
use Rattle.linearized.specs.Coefficients.{before}
use Rattle.collector.specs.Interpolation.{polynomial, shifted}
use Rattle.collector.proofs.HeldPolynomials.{written}
use Rattle.collector.proofs.polynomial.Polynomial.shift.Given as goal

abbrev pub invariant-loop-slot : goal.invariant-loop-slot
invariant-loop-slot g l =
    let A = alphabet g.F.Scalar.FiniteField g.F.FiniteField g.F.SymbolField in
    let f = polynomial A l.initial.slot-items in
    (polynomial A l.slot-items ≡ written (shifted A l.c f) l.slot-index f) × (l.before ≡ before g.F.FiniteField.field f l.slot-index)
