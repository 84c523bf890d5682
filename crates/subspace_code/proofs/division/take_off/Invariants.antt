-- After i turns the first i products are taken off, and the power is c raised i times.
use Rattle.std.proofs.Common.{◌≡◌, map}
use Rattle.linear.specs.Field.{iterate}
use Rattle.field.proofs.Members.{alphabet}
use Rattle.subspace_code.specs.Dividing.{TakenOff}
use Rattle.subspace_code.proofs.division.take_off.Given as goal

abbrev pub invariant-loop-i : goal.invariant-loop-i
invariant-loop-i g l =
    let held = g.H.Holding.held in
    (l.power ≡ iterate g.F.SymbolField.frobenius l.i l.initial.power)
    × TakenOff (alphabet g.F.Scalar.FiniteField g.F.FiniteField g.F.SymbolField) (map held l.divisor) (map held l.initial.remainder) (map held l.remainder) l.initial.power l.p l.i
