-- After i turns the sum has the first i terms, and the power is x raised i times.
use Rattle.std.proofs.Common.{◌≡◌, map}
use Rattle.linear.specs.Field.{iterate}
use Rattle.linearized.specs.Polynomials.{total, at}
use Rattle.subspace_code.proofs.evaluation.evaluate.Given as goal

abbrev pub invariant-loop-slot : goal.invariant-loop-slot
invariant-loop-slot g l =
    let G = g.F.FiniteField.field in
    let raise = g.F.SymbolField.frobenius in
    (l.power ≡ iterate raise l.slot-index l.initial.power)
    × (l.sum ≡ total G (λ i. G.mul (at G (map g.H.Holding.held l.coefficients) i) (iterate raise i l.initial.power)) l.slot-index)
