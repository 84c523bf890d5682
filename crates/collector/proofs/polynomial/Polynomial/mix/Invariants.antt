-- The first i places are mixed, the later ones are as they were.
use Rattle.std.proofs.Common.{◌≡◌}
use Rattle.field.proofs.Members.{alphabet}
use Rattle.collector.specs.Interpolation.{polynomial, mixed}
use Rattle.collector.proofs.HeldPolynomials.{written}
use Rattle.collector.proofs.polynomial.Polynomial.mix.Given as goal

abbrev pub invariant-loop-i : goal.invariant-loop-i
invariant-loop-i g l =
    let A = alphabet g.F.Scalar.FiniteField g.F.FiniteField g.F.SymbolField in
    let f = polynomial A l.initial.slot-items in
    polynomial A l.slot-items ≡ written (mixed A l.a f l.b (polynomial A l.other-inside.codes)) l.i f
