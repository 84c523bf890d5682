-- The quotient's coefficients from p on are found.
use Rattle.std.proofs.Common.{map}
use Rattle.field.proofs.Members.{alphabet}
use Rattle.linearized.specs.Division.{Dividing}
use Rattle.subspace_code.proofs.division.divide_in_place.Given as goal

abbrev pub invariant-loop-p : goal.invariant-loop-p
invariant-loop-p g l =
    let held = g.H.Holding.held in
    Dividing (alphabet g.F.Scalar.FiniteField g.F.FiniteField g.F.SymbolField) (map held l.initial.remainder) (map held l.divisor)
    (map held l.quotient) (map held l.remainder) l.lead.place l.p
